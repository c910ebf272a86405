-- The proofs of what holds of every legal history.
pub mod HistoryLemmas
