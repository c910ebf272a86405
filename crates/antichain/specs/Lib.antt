-- The definitions of antichains, with those of orders and frontiers that their contracts name.
pub use Rattle.lattice.specs.Order
pub use Rattle.lattice.specs.Frontiers
pub mod Antichains
pub mod Insertion
