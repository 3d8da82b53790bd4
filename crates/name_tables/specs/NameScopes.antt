pub mod Meanings
pub mod Tabled
