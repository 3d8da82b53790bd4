pub mod Levels
pub mod Settling
pub mod Unique
pub mod Targets
pub mod Progress
pub mod Lasts
