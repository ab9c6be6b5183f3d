pub mod Bounds
pub mod Performing
pub mod Reading
pub mod Reported
pub mod Status
pub mod Tasks
pub mod ReportedFault
pub mod Words
