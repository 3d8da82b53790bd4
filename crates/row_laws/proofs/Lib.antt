mod Alike
mod Goes
mod Idle
mod Indexing
mod Parts
mod Rules
mod Stacks
mod Trees
mod Units
pub mod StartLaws
pub mod KeyLaws
