pub mod Answered
pub mod HeldLaws
pub mod Measured
pub mod Reached
pub mod Slots
pub mod SlotsLaws
