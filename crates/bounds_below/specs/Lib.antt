pub mod Below
pub mod Carrying
