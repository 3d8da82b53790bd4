pub mod Apart
pub mod Changes
pub mod Fitting
pub mod Places
pub mod Steps
pub mod Whole
