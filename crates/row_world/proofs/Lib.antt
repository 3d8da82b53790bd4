mod Accessing
mod Past
mod Showing
pub mod TapeRounds
