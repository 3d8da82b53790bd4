pub mod Newest
pub mod Linked
pub mod Cut
