pub mod Types
pub mod Selecting
pub mod ShapeValues
pub mod ShapeStacks
