pub mod Demands
pub mod Starts
pub mod Systems
pub mod Values
pub mod Selections
