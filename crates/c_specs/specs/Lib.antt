pub mod Basic
pub mod Faults
pub mod Mix
pub mod Reading
pub mod Storage
pub mod Laws
