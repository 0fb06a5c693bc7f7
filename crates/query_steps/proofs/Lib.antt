pub mod Examples
pub mod Parts
pub mod Skips
