pub mod Compare
pub mod Decoding
pub mod Write
