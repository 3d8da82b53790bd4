pub mod NameScopes
pub mod PlaceMap
pub mod PlaceFlags
pub mod NameRecords
