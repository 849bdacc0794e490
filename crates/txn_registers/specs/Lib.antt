pub mod Code
pub mod Compiled
pub mod Correct
pub mod Doing
pub mod Machine
pub mod Sound
