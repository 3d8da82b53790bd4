mod AddingLemmas
mod Ends
mod Turning
