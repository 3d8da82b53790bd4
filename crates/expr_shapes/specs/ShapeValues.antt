pub mod Views
pub mod Picks
