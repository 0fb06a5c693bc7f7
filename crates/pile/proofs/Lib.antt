pub mod FrameDepthLaws
pub mod PileLaws
pub mod Frames
