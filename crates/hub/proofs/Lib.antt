pub mod HistoryLemmas
pub mod StepLemmas
pub mod ViewLemmas
