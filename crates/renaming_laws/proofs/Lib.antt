pub mod Pulling
pub mod Turning
pub mod Counting
pub mod Alike
pub mod Seen
