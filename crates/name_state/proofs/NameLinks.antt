pub mod Adding
pub mod Earliest
pub mod Found
pub mod Known
pub mod Lists
pub mod Tests
pub mod Things
