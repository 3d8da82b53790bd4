pub mod Stacks
pub mod Shown
pub mod Parameters
pub mod Parts
pub mod Identifiers
