-- Lemmas about what reducers answer, and about tallies.
pub mod AnswerLemmas
pub mod CountLemmas
pub mod DistinctLemmas
pub mod ExtremeLemmas
pub mod KindLemmas
pub mod TallyLemmas
