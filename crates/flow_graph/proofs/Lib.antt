mod Highest
pub mod Bounds
mod Keeping
mod Owning
mod Checks
mod Sorting
mod Listing
pub mod Links
pub mod Keyed
