-- What a read has added up so far, and what a view remembers of its last read.
pub mod SumLemmas
pub mod ViewLemmas
pub mod CapturedLemmas
