-- The definitions of the history of a key, with those of orders and frontiers that its contracts
-- name.
pub use Rattle.lattice.specs.Order
pub use Rattle.lattice.specs.Frontiers
pub mod States
pub mod Packs
pub mod Compaction
pub mod Duties
pub mod Replays
pub mod Pasts
pub mod Sweeps
pub mod Debts
pub mod Settlements
