pub mod Begun
pub mod Finding
pub mod Knowing
pub mod Sharing
pub mod Views
