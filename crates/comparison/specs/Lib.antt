pub mod Differences
pub mod Merges
