pub mod Texts
pub mod Scopes
pub mod DeclaredNames
pub mod Parts
