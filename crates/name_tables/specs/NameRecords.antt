pub mod Records
pub mod Bodies
pub mod Aggregates
pub mod Held
pub mod Found
