pub mod Clients
pub mod Moves
pub mod Openings
pub mod Threads
