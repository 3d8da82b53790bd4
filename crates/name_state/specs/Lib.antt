pub mod NameTypes
pub mod UnitNames
pub mod NameUses
pub mod NameLinks
pub mod FoundNames
