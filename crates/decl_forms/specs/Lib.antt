pub mod Storage
pub mod Listed
pub mod InitForms
