pub mod RowLists
pub mod Looping
pub mod Picking
