pub mod Reading
pub mod Status
pub mod Words
pub mod Values
