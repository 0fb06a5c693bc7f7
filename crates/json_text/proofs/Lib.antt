pub mod Beyond
pub mod Complete
pub mod ParseLaws
pub mod RunLaws
pub mod Says
pub mod Sound
pub mod TreeOfLaws
