pub mod DecodedLaws
pub mod Escapes
pub mod LeftLaws
