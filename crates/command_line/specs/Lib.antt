pub mod NoCommand
pub mod Statuses
pub mod Errors
