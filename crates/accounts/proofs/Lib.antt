-- The tally counts what lies on a board, whatever happens there.
pub mod CutEmissionLemmas
pub mod CountLemmas
pub mod AccountLemmas
pub mod QuestionLemmas
pub mod EventLemmas
pub mod LoopLemmas
