pub mod Everywhere
pub mod Finding
pub mod Laws
pub mod Programs
