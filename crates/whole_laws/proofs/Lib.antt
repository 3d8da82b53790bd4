mod Parts
mod Programs
mod Selections
mod Starts
mod Uses
mod Whole
