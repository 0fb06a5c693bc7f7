pub mod Classes
pub mod Packed
