pub mod Elements
pub mod Rows
pub mod Steps
