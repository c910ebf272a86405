-- What is outstanding on a board: what waits, what is held, and where the inputs stand.
pub use Rattle.lattice.specs.Frontiers
pub use Rattle.update.specs.Updates
pub mod Loads
pub mod Stations
pub mod Inputs
