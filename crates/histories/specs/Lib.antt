-- The definitions of histories. They know no code.
pub use Rattle.lattice.specs.Order
pub use Rattle.lattice.specs.Frontiers
pub use Rattle.update.specs.Bags
pub use Rattle.update.specs.Updates
pub mod Histories
