pub mod Readings
pub mod Indices
pub mod Preludes
pub mod Judgements
pub mod Outcomes
