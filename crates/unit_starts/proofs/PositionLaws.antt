pub mod Paths
pub mod Among
