-- The definitions of a join, with those of orders and frontiers that its contracts name.
pub use Rattle.lattice.specs.Order
pub use Rattle.lattice.specs.Frontiers
pub mod Pairs
pub mod Parts
pub mod FormedPairs
pub mod Sides
pub mod Takes
