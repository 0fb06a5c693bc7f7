pub mod Places
pub mod Scans
pub mod Shape
pub mod ShapeLaws
