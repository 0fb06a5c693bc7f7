pub mod Closing
pub mod Depth
pub mod DepthLaws
