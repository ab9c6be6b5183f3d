pub mod Answering
pub mod Dating
pub mod Deciding
pub mod Group
pub mod Together
pub mod CacheLemmas
