pub mod Answer
pub mod Compiles
pub mod Holds
