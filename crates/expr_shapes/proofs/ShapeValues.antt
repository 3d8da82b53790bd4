pub mod Candidates
pub mod Pointers
