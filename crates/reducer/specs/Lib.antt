-- The definitions of reducers and tallies.
pub mod Blind
pub mod Kinds
pub mod Refusals
pub mod Tallies
