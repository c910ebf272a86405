-- What tenures, takes and gives make of a worker.
pub mod TenureLemmas
pub mod TakenLemmas
pub mod SentLemmas
pub mod OutputLemmas
pub mod GivenLemmas
pub mod FrontsLemmas
pub mod WorkerLemmas
pub mod CrossLemmas
