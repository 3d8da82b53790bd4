pub mod Apart
pub mod Staying
