pub mod Strings
pub mod Copies
pub mod Assignment
pub mod Meeting
