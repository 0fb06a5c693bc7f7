pub mod Items
pub mod Root
