pub mod Operations
pub mod Joining
pub mod Op
pub mod Trees
pub mod Lasts
