pub mod Tokens
pub mod Keys
