pub mod Digits
pub mod Letters
pub mod Parts
