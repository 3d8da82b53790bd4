pub mod Stacked
pub mod Views
