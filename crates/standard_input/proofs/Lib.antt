-- Lemmas of `standard_input`.
mod Overwritten
