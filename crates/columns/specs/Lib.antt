-- The definitions of lists of updates that are kept column by column.
pub use Rattle.lattice.specs.Order
pub use Rattle.lattice.specs.Frontiers
pub mod Keys
pub mod Tables
pub mod Runs
pub mod Lists
