pub mod Refusals
pub mod Wider
