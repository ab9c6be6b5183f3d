mod Away
mod Behind
mod Cutting
pub mod Delivering
mod Exchanging
pub mod Happening
mod Interims
mod Kept
mod Limits
mod More
mod Nothing
mod Passing
mod Plain
mod Replies
pub mod Situations
mod Still
mod Told
