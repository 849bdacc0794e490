pub mod Parts
pub mod Lines
pub mod Rows
pub mod Stops
pub mod Walks
pub mod Limits
pub mod Shown
