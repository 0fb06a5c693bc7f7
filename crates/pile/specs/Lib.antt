pub mod FrameDepth
pub mod Pile
pub mod Moves
pub mod Due
pub mod DueLaws
