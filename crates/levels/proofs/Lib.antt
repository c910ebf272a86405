-- Lemmas about merges that are under way.
pub mod PlaceLemmas
pub mod UnderwayLemmas
