pub mod HeightLemmas
pub mod Stacks
