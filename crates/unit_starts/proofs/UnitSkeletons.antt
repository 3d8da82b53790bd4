pub mod Counting
pub mod Gathering
pub mod Placing
pub mod Marking
pub mod Siting
