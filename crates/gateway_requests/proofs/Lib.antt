pub mod Completing
pub mod Keys
pub mod Numbers
