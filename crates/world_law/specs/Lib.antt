pub mod World
pub mod Next
pub mod Commits
pub mod Opacity
pub mod Worked
pub mod Determined
