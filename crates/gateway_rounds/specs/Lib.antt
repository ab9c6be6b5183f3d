pub mod Ports
pub mod Turns
pub mod Rounds
pub mod Away
pub mod Places
pub mod Groups
pub mod AwayTurns
