pub mod Asking
pub mod Exchanging
pub mod Handing
pub mod Settled
