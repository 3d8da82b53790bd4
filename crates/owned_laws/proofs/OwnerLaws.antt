pub mod Fitting
pub mod Indexing
pub mod Instances
pub mod Intervals
pub mod Rows
pub mod Sites
