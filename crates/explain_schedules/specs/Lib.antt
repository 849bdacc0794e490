pub mod Words
pub mod Lines
pub mod Places
pub mod Walking
pub mod Explaining
pub mod Telling
