mod Linking
mod Cutting
pub mod Lasts
