-- Lemmas about the output of linear nodes.
pub mod SumLemmas
pub mod SizeLemmas
pub mod WidthLemmas
pub mod LoopLemmas
pub mod PortLemmas
pub mod OutputLemmas
