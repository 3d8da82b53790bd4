pub mod Nodes
pub mod Parts
pub mod Pending
pub mod Tape
pub mod Tests
