pub mod Journals
pub mod Crew
pub mod Ended
pub mod Standing
pub mod Sparing
pub mod Drawing
