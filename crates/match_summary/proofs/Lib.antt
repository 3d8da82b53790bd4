mod Chaining
mod Counting
pub mod Crossing
mod Followed
pub mod Growth
mod Hashing
mod Matched
pub mod Sources
mod Done
mod Turns
