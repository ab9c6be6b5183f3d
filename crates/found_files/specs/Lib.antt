pub mod Calls
pub mod Found
pub mod Held
pub mod Note
pub mod Openings
