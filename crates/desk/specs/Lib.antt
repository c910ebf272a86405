-- The definitions of a desk, and those of the laws that it keeps.
pub use Rattle.desk_laws.specs.Own
pub mod Desks
pub mod Openings
pub mod Sealings
pub mod Joinings
pub mod Upkeep
