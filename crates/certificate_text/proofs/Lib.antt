pub mod EndLemmas
pub mod Pairs
pub mod Rising
pub mod Written
pub mod Setting
