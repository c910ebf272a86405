-- Lemmas about the history of a key.
pub mod ApartLemmas
pub mod CompactionLemmas
pub mod OverfullLemmas
pub mod PackLemmas
pub mod PastLemmas
pub mod ReplayLemmas
pub mod SettleLemmas
pub mod DutyLemmas
pub mod SweepLemmas
