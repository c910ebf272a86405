-- The definitions of what a worker keeps at one node, as contracts see it.
pub use Rattle.lattice.specs.Frontiers
pub mod Arrangements
pub mod Joins
pub mod Reductions
