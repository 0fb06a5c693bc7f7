pub mod DeltaSwap
pub mod Gather
pub mod Braces
pub mod Packing
