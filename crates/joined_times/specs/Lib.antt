-- The definitions of joined times, with those of orders and frontiers that the contracts name.
pub use Rattle.lattice.specs.Order
pub use Rattle.lattice.specs.Frontiers
pub mod Joined
pub mod Additions
