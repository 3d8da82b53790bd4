pub mod Listed
pub mod Old
