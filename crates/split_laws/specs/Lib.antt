pub mod Splits
pub mod Same
