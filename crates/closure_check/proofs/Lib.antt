pub mod Sorted
pub mod BitSets
pub mod Turns
pub mod Returns
pub mod Asked
