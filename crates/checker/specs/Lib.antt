pub mod View
pub mod Lines
pub mod Parts
pub mod Verdicts
pub mod Judging
pub mod Chapters
