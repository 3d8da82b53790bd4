mod Naming
mod Sets
mod Reading
mod Same
mod Verdicts
