-- What was gathered is a list of updates: its definitions are those of lists, and of what a give
-- leaves.
pub use Rattle.operator_laws.specs.GatheredUpdates
