pub mod Left
pub mod Measure
