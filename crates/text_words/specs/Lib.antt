pub mod Bytes
pub mod Tokens
pub mod Answers
pub mod TokenReading
pub mod TokenView
pub mod Numbers
pub mod Words
pub mod Fronts
