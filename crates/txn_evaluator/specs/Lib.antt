pub mod Always
pub mod Flow
pub mod Notes
pub mod Worked
