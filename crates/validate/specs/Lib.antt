pub mod Checks
pub mod Nesting
pub mod Turns
