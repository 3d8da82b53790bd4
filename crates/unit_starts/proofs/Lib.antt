pub mod Fresh
pub mod Selecting
pub mod UnitSkeletons
pub mod PositionLaws
