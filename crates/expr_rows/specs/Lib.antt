pub mod Turning
pub mod OpRows
