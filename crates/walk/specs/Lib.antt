pub mod Ahead
pub mod AheadLaws
pub mod Enters
pub mod Labels
pub mod ValueLaws
pub mod Walks
