pub mod Passing
pub mod Trees
pub mod Turns
