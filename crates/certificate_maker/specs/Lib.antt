pub mod Making
pub mod Certified
