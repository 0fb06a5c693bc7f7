pub mod Blanks
pub mod Letters
pub mod Names
pub mod Positions
pub mod Wides
