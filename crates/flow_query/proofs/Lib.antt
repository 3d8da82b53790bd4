mod Ending
mod Going
mod Keeping
mod Listing
mod Telling
mod Those
mod Walking
