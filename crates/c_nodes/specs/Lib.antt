pub mod Extended
pub mod Heights
pub mod Named
pub mod Sized
