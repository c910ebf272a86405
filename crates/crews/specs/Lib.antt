-- When a board stands for a session, and what a worker that pauses has left.
pub mod BoardStates
pub mod Employment
