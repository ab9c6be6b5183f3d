pub mod Text
pub mod Pointer
pub mod QName
pub mod Period
pub mod Moment
pub mod Unit
pub mod Number
pub mod Language
