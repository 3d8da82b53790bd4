pub mod Declarators
pub mod Shapes
pub mod Statements
