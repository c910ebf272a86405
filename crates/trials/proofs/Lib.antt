-- Lemmas of tests.
pub mod PrefixLemmas
