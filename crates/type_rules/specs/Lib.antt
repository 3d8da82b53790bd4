pub mod Judging
pub mod Naming
pub mod Program
pub mod Shapes
pub mod Tokens
