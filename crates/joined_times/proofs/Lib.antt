-- Lemmas about members of lists, and about the joins of times.
pub mod AdditionLemmas
pub mod AlikeLemmas
pub mod FreshLemmas
pub mod JoinLemmas
pub mod MemberLemmas
pub mod OrderLemmas
