mod Pushing
mod Rooms
mod Lists
mod Typedefs
mod Autos
