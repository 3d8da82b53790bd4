pub mod Phases
pub mod PhaseSets
pub mod Sets
pub mod Solution
pub mod Stable
pub mod Stack
pub mod Waiting
pub mod Working
