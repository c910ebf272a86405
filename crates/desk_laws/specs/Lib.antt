-- What a worker keeps, on its desk and in its hand.
pub mod Observed
pub mod Outputs
pub mod Own
