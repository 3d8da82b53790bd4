pub mod NoUnit
pub mod Refused
pub mod Trees
pub mod WiderRefused
pub mod WiderTrees
