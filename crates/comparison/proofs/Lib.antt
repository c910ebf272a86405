pub mod LineLemmas
pub mod MergeLemmas
pub mod RowLemmas
