pub mod Beside
pub mod Conditions
pub mod Counted
