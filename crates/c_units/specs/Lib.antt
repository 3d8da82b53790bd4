pub mod FirstBad
pub mod HeldScopes
pub mod Scoping
pub mod Units
