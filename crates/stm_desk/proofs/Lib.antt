mod Flags
mod Becoming
mod Calling
mod Legal
mod Seats
mod Answered
mod Handing
mod Refusing
mod Settling
mod Beginning
mod Carrying
mod Turned
mod Within
mod Lending
mod Ending
pub mod Crossing
