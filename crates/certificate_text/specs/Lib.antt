pub mod Names
pub mod Text
pub mod Order
pub mod Naming
