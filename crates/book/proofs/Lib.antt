mod Lists
mod Laws
mod Woken
mod Waited
mod Agreeing
mod Readying
pub mod Draining
pub mod GivingUp
mod Submitting
mod Kept
mod Sleeping
mod Among
mod Rows
mod Filling
mod Sets
mod Found
mod Waking
mod Writes
mod Storing
mod Changed
mod Raising
mod Committing
mod Noting
mod PlainEnds
mod PlainKept
mod Reporting
mod Listed
pub mod Accounts
mod Finishing
mod Serving
mod Tallies
mod Carrying
mod Parking
pub mod Staying
mod Programs
mod Compiling
mod Given
mod TaskCalls
mod Listings
mod Beginning
mod Begins
pub mod Recording
pub mod Crossing
