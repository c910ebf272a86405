-- What a script writes, and why a run of it may end early. The definitions of sessions are handed
-- on.
pub use Rattle.engines.specs.Sessions
pub mod Text
pub mod RunEnds
pub mod Bounds
pub mod Ends
pub mod Reads
