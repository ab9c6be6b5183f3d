pub mod Moment
pub mod Name
pub mod Receipt
pub mod Text
