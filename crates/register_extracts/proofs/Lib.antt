pub mod Dates
pub mod Dating
pub mod Epoch
mod KnownMoments
pub mod MomentTexts
pub mod Numbers
pub mod Places
pub mod Texts
mod Columns
pub mod Done
pub mod Faults
mod SentTexts
pub mod Steps
pub mod Walks
pub mod Adding
pub mod DigestDone
pub mod KeptTexts
pub mod Lines
pub mod Requests
pub mod Telling
pub mod DigestWalks
pub mod Whole
