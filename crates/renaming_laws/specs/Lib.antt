pub mod Renamings
pub mod Laws
pub mod Example
