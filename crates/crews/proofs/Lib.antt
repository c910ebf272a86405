pub mod TurnLemmas
pub mod BoardStateLemmas
pub mod ReadLemmas
pub mod WitnessLemmas
