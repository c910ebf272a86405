pub mod GatheredLemmas
pub mod ArrangeLemmas
pub mod ReduceLemmas
pub mod QueueLemmas
pub mod JoinLemmas
pub mod WorkerLemmas
pub mod PortLemmas
