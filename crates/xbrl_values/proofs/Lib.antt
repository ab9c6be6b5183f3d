pub mod Bools
pub mod Calendar
pub mod Escapes
pub mod FirstPassing
pub mod Measures
pub mod Parentheses
pub mod Places
