pub mod AsQuery
pub mod NameTree
pub mod NormalizedIs
pub mod PlainSteps
pub mod QueriesHold
pub mod QueriesMet
pub mod SaysIs
pub mod SaysLaws
