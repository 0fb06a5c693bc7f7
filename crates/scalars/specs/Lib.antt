pub mod Among
pub mod Blanks
pub mod Numbers
pub mod Scalars
pub mod Words
