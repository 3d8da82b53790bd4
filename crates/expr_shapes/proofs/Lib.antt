mod Choosing
pub mod ShapeValues
pub mod ShapeStacks
