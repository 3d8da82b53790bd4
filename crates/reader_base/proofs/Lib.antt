pub mod Looping
pub mod RowLoops
pub mod BracketLoop
mod NameLoop
mod WordQuals
