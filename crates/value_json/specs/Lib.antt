pub mod Errors
pub mod Parts
pub mod Values
