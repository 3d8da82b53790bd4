pub mod EndLemmas
mod LastLemmas
pub mod ViewLemmas
pub mod NamedDeclarators
pub mod Weaker
pub mod NoType
