-- The lemmas of the board: what its code reads and writes is what the definitions of `specs/Boards`
-- say.
pub mod BoardLemmas
pub mod FrontLemmas
pub mod PartLemmas
pub mod AcceptLemmas
pub mod FirstLemmas
pub mod GiveLemmas
pub mod ReadLemmas
pub mod RoutingLemmas
pub mod CutLemmas
pub mod AllowLemmas
pub mod PieceLemmas
