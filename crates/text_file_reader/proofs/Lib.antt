mod Ids
pub mod Known
pub mod Made
pub mod AtOnce
pub mod Gaps
pub mod SameTokens
pub mod Declared
pub mod Spans
pub mod Back
mod Begun
pub mod Calls
pub mod Again
pub mod Spelt
pub mod Blame
pub mod FirstFault
mod Announced
