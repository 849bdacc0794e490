pub mod Always
pub mod GoingBack
mod Sequences
mod Joining
