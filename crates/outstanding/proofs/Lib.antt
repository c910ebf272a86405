-- What the code of stations and inputs reads and writes is what the definitions say.
pub mod LotLemmas
pub mod GiveLemmas
pub mod PutLemmas
pub mod SurveyLemmas
pub mod QueueLemmas
pub mod StationLemmas
pub mod RoomLemmas
pub mod SiteLemmas
pub mod PlacedLemmas
pub mod OpenLemmas
