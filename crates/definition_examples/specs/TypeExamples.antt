pub mod Examples
pub mod Several
pub mod Wider
