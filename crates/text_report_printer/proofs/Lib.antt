pub mod LineEnds
pub mod Appends
pub mod Lines
pub mod Lengths
