pub mod Parsing
pub mod Whole
pub mod Refusing
pub mod Taping
pub mod UnitForms
