mod Finding
mod Parts
mod Once
mod Standing
