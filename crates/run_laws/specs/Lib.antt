pub mod Shapes
pub mod Programs
pub mod Runs
pub mod Example
pub mod Laws
