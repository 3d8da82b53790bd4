mod Carried
mod Gaining
mod Groups
mod Items
mod Links
mod Reaching
mod Rooms
