pub mod Among
pub mod EndLaws
pub mod Keeps
pub mod Seeks
pub mod TrailLaws
