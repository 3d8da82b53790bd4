mod Sizes
mod Seeing
mod Reading
mod Growth
mod Laws
