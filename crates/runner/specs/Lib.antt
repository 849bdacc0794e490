pub mod Pieces
pub mod Running
