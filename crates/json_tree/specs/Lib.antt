pub mod View
pub mod Putting
