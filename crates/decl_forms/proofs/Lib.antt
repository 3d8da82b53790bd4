pub mod Words
pub mod Pushed
pub mod InitForms
