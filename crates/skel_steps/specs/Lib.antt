pub mod Stepping
pub mod Picks
pub mod SkelStacks
