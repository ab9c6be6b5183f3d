pub mod Told
pub mod Done
pub mod Halls
pub mod Hands
pub mod Answered
pub mod Waits
pub mod InTime
