pub mod Places
pub mod Systems
pub mod Sharing
pub mod Numberings
pub mod UnitRows
pub mod SourceMarks
