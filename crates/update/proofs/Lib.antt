-- Lemmas about totals, bags and consolidation.
pub mod SumLemmas
pub mod UniqueLemmas
pub mod LeastLemmas
pub mod Places
pub mod CopyLemmas
pub mod GatherLemmas
pub mod TakeLemmas
pub mod GroupLemmas
pub mod TotalLemmas
pub mod ConsolidatedLemmas
pub mod UnitTimeLemmas
pub mod BagLemmas
