-- Sessions, and how engines answer for them.
pub mod Bags
pub mod Orders
pub mod Changes
pub mod Sessions
pub mod Bitemporal
pub mod Engines
pub mod Bounds
pub mod Answers
pub mod OracleStates
