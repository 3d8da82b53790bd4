pub mod Sources
pub mod Joined
pub mod SourceSpelling
