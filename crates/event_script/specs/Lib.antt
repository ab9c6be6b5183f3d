pub mod Events
pub mod Words
pub mod Lines
pub mod Text
pub mod Scripts
pub mod Restarts
pub mod Shown
pub mod Complaints
