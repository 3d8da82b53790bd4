pub mod Bare
pub mod Knowing
