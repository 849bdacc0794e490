pub mod Canonical
pub mod Layout
pub mod Named
pub mod Scopes
pub mod Fits
