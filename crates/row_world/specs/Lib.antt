pub mod Shown
pub mod TapeRounds
