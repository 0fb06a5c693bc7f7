pub mod Answers
pub mod DeadBytes
pub mod Entries
pub mod Masks
