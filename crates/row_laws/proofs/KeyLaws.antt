pub mod Counts
pub mod Parts
pub mod Trees
pub mod Units
pub mod Sound
