-- Lemmas of what is gathered.
pub mod GatheredLemmas
