pub mod Examples
pub mod IndexWords
pub mod Several
pub mod Wider
