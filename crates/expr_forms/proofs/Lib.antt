mod Lists
mod Rooms
