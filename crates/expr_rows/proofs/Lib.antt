mod Extending
mod Rooms
pub mod OpRows
