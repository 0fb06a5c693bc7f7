pub mod Kinds
pub mod Lanes
pub mod Stops
