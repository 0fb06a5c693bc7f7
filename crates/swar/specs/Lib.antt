pub mod KindLaws
pub mod Kinds
pub mod Passing
pub mod Run
