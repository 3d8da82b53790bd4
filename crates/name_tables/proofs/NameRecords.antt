pub mod Added
pub mod Changed
pub mod Firsts
pub mod Members
