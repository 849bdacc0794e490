pub mod Resolved
pub mod Faults
pub mod Gaps
