mod Rows
mod Bodies
