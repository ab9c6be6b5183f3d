pub mod Performing
pub mod Refusals
pub mod Shown
pub mod Status
pub mod Words
