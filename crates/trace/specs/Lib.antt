pub mod Slots
pub mod Traces
