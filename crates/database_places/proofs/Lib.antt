pub mod Accesses
pub mod Certainty
pub mod Finding
pub mod Laying
pub mod Leaving
pub mod Lying
pub mod Nothing
pub mod Options
pub mod Trying
mod Visits
