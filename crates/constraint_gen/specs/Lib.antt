pub mod Marking
pub mod Listing
pub mod Programs
pub mod Generating
