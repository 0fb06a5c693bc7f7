pub mod Brackets
pub mod BracketLaws
pub mod ContainerEnds
pub mod Passing
