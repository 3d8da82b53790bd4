pub mod Writing
pub mod SceneLemmas
mod SubsLemmas
mod LatticeLemmas
mod SolutionLemmas
mod ReportLemmas
mod Annotating
mod Counting
pub mod Firsts
