-- Lemmas about tables, runs, keys and searches.
pub mod TableLemmas
pub mod KeyLemmas
pub mod SeekLemmas
pub mod RunLemmas
pub mod PlaceLemmas
pub mod CopyLemmas
pub mod ColumnsLemmas
pub mod SearchLemmas
pub mod TruncateLemmas
