pub mod Keys
pub mod Differing
pub mod Tokens
