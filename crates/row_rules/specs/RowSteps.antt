pub mod Rounds
pub mod Starting
pub mod State
pub mod Steps
pub mod OpRows
pub mod Found
