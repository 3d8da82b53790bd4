pub mod Sources
pub mod Units
pub mod SourceSpelling
