pub mod Path
pub mod Route
