pub mod Names
pub mod WrittenLaws
