pub mod Words
pub mod Laws
pub mod Examples
pub mod Sorted
pub mod Parts
pub mod Counts
