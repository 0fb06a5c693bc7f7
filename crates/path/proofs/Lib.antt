pub mod Answering
pub mod Labels
pub mod Turns
