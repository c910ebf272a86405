-- The definitions of what is given of a key at a time.
pub mod Corrections
pub mod Evaluations
