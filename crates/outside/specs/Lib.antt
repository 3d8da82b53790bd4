pub mod Readings
pub mod Puts
pub mod Histories
pub mod Taking
pub mod Memory
