mod Agreeing
mod Apart
mod Elements
mod Halves
mod Held
mod Indexing
mod Knowing
mod LineLemmas
mod Numbers
mod OneText
mod Orders
mod Pairs
mod Roots
mod Same
mod Serving
mod Shared
mod Statics
mod Taken
mod Taking
mod Texts
mod Words
mod Writing
mod Written
pub mod Ascending
pub mod Indices
pub mod JoinsMeets
pub mod Marking
pub mod Numbering
pub mod Ranges
pub mod Sayings
pub mod Telling
