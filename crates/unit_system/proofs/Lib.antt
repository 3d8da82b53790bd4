pub mod Owners
pub mod Units
pub mod Showing
pub mod Flags
pub mod UnitRows
pub mod SourceMarks
