pub mod ClientLemmas
pub mod OpeningLemmas
pub mod MoveLemmas
pub mod ThreadLemmas
pub mod CrossLemmas
