pub mod Shared
pub mod Shown
