pub mod Allowed
pub mod Grammar
pub mod Laws
pub mod Places
