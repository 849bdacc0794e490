pub mod Rows
pub mod Above
pub mod Flags
pub mod Kept
pub mod First
pub mod Words
pub mod Next
