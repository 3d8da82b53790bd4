mod Alone
mod Ending
mod Low
mod Numbering
mod Olds
mod Running
