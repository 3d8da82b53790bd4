mod Adding
mod Collecting
mod Rising
mod Solved
mod Written
mod FirstParts
