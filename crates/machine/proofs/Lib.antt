-- The proofs of this crate, in two rooms: those of histories, and those of the board, which may use
-- the former.
pub mod BoardLemmas
pub mod CrossLemmas
