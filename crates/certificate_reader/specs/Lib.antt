pub mod Lines
pub mod Fronts
pub mod Grammar
pub mod Reader
pub mod Laws
pub mod Making
