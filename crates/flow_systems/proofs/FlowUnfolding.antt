pub mod CopyTests
pub mod Rising
pub mod Low
pub mod Changes
pub mod Longer
pub mod Answering
