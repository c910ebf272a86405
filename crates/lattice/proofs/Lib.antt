-- Lemmas about bounds, frontiers and representatives.
pub mod BoundLemmas
pub mod FrontierLemmas
pub mod RepresentativeLemmas
