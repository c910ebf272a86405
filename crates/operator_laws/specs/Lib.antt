-- The definitions of the laws: of which states what a worker keeps at a node is right.
pub use Rattle.lattice.specs.Frontiers
pub mod GatheredUpdates
pub mod ArrangeNodes
pub mod JoinNodes
pub mod ReduceNodes
pub mod Workers
