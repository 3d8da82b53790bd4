pub mod Found
pub mod Idle
pub mod Parts
pub mod Selections
pub mod States
pub mod Trees
pub mod Units
