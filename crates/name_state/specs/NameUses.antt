pub mod Named
pub mod Local
