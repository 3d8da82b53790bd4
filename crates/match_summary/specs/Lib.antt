pub mod Buckets
pub mod Chained
pub mod Closing
pub mod Crossings
pub mod Reason
pub mod Starts
pub mod Summary
