-- The definitions of levels, with those of traces that their contracts name.
pub use Rattle.trace.specs.Readings
pub use Rattle.trace.specs.BatchLists
pub mod Levels
