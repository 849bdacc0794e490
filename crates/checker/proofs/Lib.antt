pub mod Noted
mod Opens
pub mod Lists
pub mod Named
mod Whole
mod Only
pub mod Firsts
mod Chaptered
pub mod Chapterings
mod OneMore
mod Inside
