-- Lemmas of counts and of the frontiers that follow from them.
pub mod NumberLemmas
pub mod GraphLemmas
pub mod CountLemmas
pub mod SeveralLemmas
pub mod ItemLemmas
pub mod FrontierLemmas
pub mod PortLemmas
pub mod KeptLemmas
pub mod ChangeLemmas
pub mod AskedLemmas
pub mod MarkLemmas
pub mod ScopeLemmas
pub mod CurrentLemmas
pub mod CountListLemmas
pub mod EntryLemmas
pub mod TieLemmas
pub mod PlacedLemmas
