pub mod Along
pub mod Held
pub mod Keys
pub mod Views
