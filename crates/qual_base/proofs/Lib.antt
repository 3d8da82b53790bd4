pub mod WordLemmas
pub mod Lists
pub mod Tests
