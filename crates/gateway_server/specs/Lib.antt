pub mod Connections
pub mod Progress
pub mod Stopping
pub mod Decided
pub mod Answered
pub mod Written
pub mod Steps
pub mod Group
