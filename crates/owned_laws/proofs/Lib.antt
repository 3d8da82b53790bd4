mod Begin
mod Contexts
mod Fits
mod Found
mod Functions
mod Opening
mod Placed
mod Places
mod Stacks
mod Steps
mod Whole
pub mod TapeLaws
pub mod ScopeLaws
pub mod OwnerLaws
pub mod ElementLaws
