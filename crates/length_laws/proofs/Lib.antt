mod Lengths
mod Parts
mod Trees
mod Units
