pub mod Words
pub mod Numbering
pub mod Sources
pub mod Units
