-- What is outstanding on a board, with the tally that counts it, and what a worker gives.
pub mod Accounts
pub mod CutEmissions
