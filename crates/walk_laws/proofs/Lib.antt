mod Walks
mod Holding
