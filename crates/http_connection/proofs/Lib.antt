pub mod Bounds
pub mod BufferLemmas
pub mod Finished
pub mod Heads
pub mod Telling
