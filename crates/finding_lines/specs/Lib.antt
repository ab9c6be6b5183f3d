pub mod Linting
pub mod Messages
pub mod Sentences
pub mod Objects
pub mod Lines
