-- The definitions of what is outstanding, of the frontiers, and of what code keeps of a plan.
pub mod Tallies
pub mod Several
pub mod Scopes
pub mod Graphs
pub mod Kept
pub mod CountLists
pub mod PlacedCounts
