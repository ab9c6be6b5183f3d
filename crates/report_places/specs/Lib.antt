pub mod Lead
pub mod Offset
pub mod Position
pub mod Place
pub mod Scan
pub mod Entries
pub mod OnTape
pub mod Shown
