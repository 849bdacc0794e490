pub mod Members
pub mod Levels
pub mod SetInside
pub mod PackedEntries
