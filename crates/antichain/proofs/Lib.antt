-- Lemmas about lists, antichains and insertions.
pub mod Lists
pub mod AntichainLemmas
pub mod InsertionLemmas
