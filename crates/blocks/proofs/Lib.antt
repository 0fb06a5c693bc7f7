pub mod Parity
pub mod Escape
pub mod StringsFound
pub mod Sort
pub mod Apart
pub mod Front
pub mod Counting
