pub mod Restarting
mod Bytes
mod Digits
mod Fitting
mod Heads
mod Keys
mod Parts
mod Reading
