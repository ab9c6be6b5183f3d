mod Lists
mod Alike
mod Turns
mod Told
mod Decided
mod Sorting
mod Telling
pub mod Whole
mod AwayTurns
