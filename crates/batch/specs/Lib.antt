-- The definitions of batches, with those of orders and frontiers that their contracts name.
pub use Rattle.lattice.specs.Order
pub use Rattle.lattice.specs.Frontiers
pub mod Batches
pub mod Compaction
pub mod Changes
pub mod Descriptions
pub mod Intervals
pub mod Merges
