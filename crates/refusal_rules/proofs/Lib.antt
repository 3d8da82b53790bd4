mod Begun
pub mod Weaker
