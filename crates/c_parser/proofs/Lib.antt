pub mod Numbering
pub mod TapeOfItems
pub mod Refusals
pub mod UnitForms
