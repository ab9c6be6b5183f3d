pub mod Ending
pub mod Causes
pub mod Entries
pub mod GoingThrough
pub mod Hearing
pub mod Lending
pub mod OutboxEntries
mod Serving
pub mod Steps
pub mod Telling
