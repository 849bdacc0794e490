pub mod Words
pub mod Stores
pub mod Loads
