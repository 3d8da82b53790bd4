pub mod Views
pub mod Selecting
pub mod UnitSkeletons
pub mod PositionLaws
