pub mod Told
pub mod Answered
pub mod Under
pub mod Calls
pub mod Lawful
pub mod Logs
pub mod Lacking
pub mod Reading
