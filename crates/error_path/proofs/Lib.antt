mod Found
mod Going
mod Holding
pub mod InLattices
mod Making
mod Over
mod Resting
mod Rooming
mod Searching
mod Tracing
mod Items
mod Unset
mod Drafting
mod Ranks
mod Unmade
