pub mod Lines
pub mod SplitLaws
pub mod LineLaws
pub mod SizeLaws
