pub mod Beginning
pub mod Keeping
pub mod Looking
pub mod Pieces
pub mod Telling
