pub mod Adding
pub mod Forming
pub mod Indexing
pub mod Kinds
pub mod Nodes
pub mod Parts
