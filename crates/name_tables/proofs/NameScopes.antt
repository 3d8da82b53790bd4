pub mod Known
pub mod Innermost
