pub mod Cells
pub mod Adding
pub mod Firsts
pub mod Placing
