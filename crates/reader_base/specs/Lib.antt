pub mod Gives
pub mod Lent
pub mod Looping
pub mod Fitting
pub mod Rows
pub mod Groups
pub mod Lists
