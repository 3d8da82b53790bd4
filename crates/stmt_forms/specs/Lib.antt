pub mod InBlocks
pub mod Statements
