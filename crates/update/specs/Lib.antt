-- The definitions of updates and bags, with those of orders and frontiers that their contracts
-- name.
pub use Rattle.lattice.specs.Order
pub use Rattle.lattice.specs.Frontiers
pub mod Bags
pub mod Updates
pub mod Refusals
pub mod Groups
pub mod Joins
pub mod UnitTimes
pub mod Equality
pub mod Text
