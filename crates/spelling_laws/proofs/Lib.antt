mod Bounds
mod Numbers
