pub mod Ops
pub mod Tokens
