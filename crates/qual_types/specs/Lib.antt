pub mod Positions
pub mod Skel
pub mod Rows
pub mod Table
