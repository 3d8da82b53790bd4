pub mod Keeping
pub mod Steps
pub mod Stops
pub mod Fresh
pub mod InnerLaws
pub mod Laws
