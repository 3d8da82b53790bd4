pub mod Calling
pub mod Designating
pub mod Implicit
pub mod Judging
pub mod Keeping
