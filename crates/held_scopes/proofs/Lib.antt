mod Known
mod Innermost
