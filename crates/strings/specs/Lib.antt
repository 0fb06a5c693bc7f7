pub mod Strings
pub mod Parts
pub mod Calm
pub mod Texts
pub mod StringsAre
pub mod WordTwo
pub mod Blockwise
pub mod Examples
