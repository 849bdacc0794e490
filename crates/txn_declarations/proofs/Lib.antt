mod Equal
mod Named
pub mod Weights
pub mod Beside
mod Copying
mod Finding
