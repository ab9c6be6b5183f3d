pub mod Buffer
pub mod Parsed
pub mod Connection
