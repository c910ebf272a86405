-- Lemmas about sums of updates, and about what is given of a key at a time.
pub mod CorrectLemmas
pub mod CorrectionLemmas
pub mod DraftLemmas
pub mod EvaluationLemmas
pub mod JoinedLemmas
pub mod KeyedLemmas
pub mod ResultLemmas
pub mod TalliedLemmas
