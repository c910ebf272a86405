-- The definitions of this crate, in two rooms: histories, which know no code, and boards, which may
-- use histories.
pub use Rattle.lattice.specs.Order
pub use Rattle.lattice.specs.Frontiers
pub use Rattle.update.specs.Bags
pub use Rattle.update.specs.Updates
pub mod Boards
