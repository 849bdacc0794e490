pub mod Texts
pub mod Each
pub mod Parts
pub mod Judged
