pub mod Rows
pub mod Lawful
pub mod Unwritten
pub mod Standing
pub mod Faults
pub mod Instances
