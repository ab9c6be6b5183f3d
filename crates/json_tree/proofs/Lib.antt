pub mod Views
pub mod Turns
pub mod Growing
pub mod Putting
