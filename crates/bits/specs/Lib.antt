pub mod Bits
pub mod Truth
pub mod Laws
pub mod Word
