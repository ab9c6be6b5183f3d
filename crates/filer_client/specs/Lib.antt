pub mod Exchange
pub mod Calls
