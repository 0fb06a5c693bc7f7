pub mod Hits
pub mod NextMarks
