pub mod Output
pub mod Examples
pub mod AnswerLaws
pub mod PrintedNodes
