pub mod Changes
pub mod Growing
pub mod Links
pub mod Lists
pub mod Tapes
