pub mod Asking
pub mod Owned
pub mod Source
pub mod Names
pub mod Checked
pub mod Certified
