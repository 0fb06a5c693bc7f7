pub mod Descent
pub mod Inside
pub mod Items
pub mod Keeping
pub mod Links
pub mod Turns
pub mod Values
