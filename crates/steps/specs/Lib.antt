-- What a contract sees of a worker, and what a step adds to what it has seen.
pub mod Workers
pub mod Steps
