mod Words
mod Growing
mod Fitting
mod Changes
mod Walk
mod Units
