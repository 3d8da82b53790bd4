mod Numerals
mod Pieces
mod Rules
mod Lexing
mod States
mod Ends
mod Steps
mod Walks
mod Agrees
mod Examples
pub mod Laws
