pub mod ListerIs
pub mod LongQueriesHold
pub mod Demand3Holds
pub mod FinderIs
pub mod BoundIs
pub mod BoundMet
