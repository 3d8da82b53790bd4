mod Growing
mod Pushing
