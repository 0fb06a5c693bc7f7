-- The specifications of `cases`: what its functions promise of the places that they answer, and of a run that stops.
pub mod Places
pub mod Stops
