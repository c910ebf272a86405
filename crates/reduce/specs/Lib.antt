-- The definitions of a reduction, with those of the crates below and of orders and frontiers that
-- its contracts name.
pub use Rattle.lattice.specs.Order
pub use Rattle.lattice.specs.Frontiers
pub use Rattle.joined_times.specs.Joined
pub use Rattle.reducer.specs.Kinds
pub use Rattle.key_history.specs.Duties
pub use Rattle.key_history.specs.Compaction
pub use Rattle.key_history.specs.Debts
pub mod Seen
pub mod Histories
pub mod Compacted
pub mod Intake
pub mod Visits
pub mod Reductions
pub mod Outputs
