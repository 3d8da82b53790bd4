pub mod Found
pub mod OpFaults
pub mod State
pub mod Steps
