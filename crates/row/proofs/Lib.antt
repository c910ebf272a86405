-- Lemmas about rows.
pub mod RoutingLemmas
