pub mod Apart
mod Candidates
pub mod SkelStacks
