-- The definitions of a board in a hub, and of what an actor knows of it.
pub use Rattle.lattice.specs.Frontiers
pub mod Widths
pub mod Tenures
pub mod Ports
pub mod Calls
pub mod Found
pub mod Large
pub mod Pieces
