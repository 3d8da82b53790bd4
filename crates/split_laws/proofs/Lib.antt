mod Appending
mod Library
mod Serving
mod Wholes
mod Carried
