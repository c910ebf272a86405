-- The definitions of what a view keeps.
pub use Rattle.lattice.specs.Order
pub use Rattle.update.specs.Bags
pub use Rattle.update.specs.Updates
pub mod Views
