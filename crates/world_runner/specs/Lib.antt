pub mod Playing
pub mod Showing
