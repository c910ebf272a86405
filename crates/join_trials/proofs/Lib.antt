-- Lemmas of tests of joins.
pub mod ReadyLemmas
