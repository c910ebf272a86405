-- The lemmas of histories. They know no code, and the theorems of `histories/theorems.rt` are their
-- ends.
pub mod OutstandingLemmas
pub mod StampLemmas
pub mod FlowLemmas
pub mod KeptLemmas
pub mod WorkerLemmas
pub mod ClearLemmas
pub mod ClaimLemmas
pub mod HeadlineLemmas
pub mod OnwardLemmas
pub mod PassedLemmas
pub mod SizeLemmas
pub mod FewestLemmas
pub mod LoadRuleLemmas
pub mod BoundLemmas
pub mod QuietLemmas
pub mod PortLemmas
pub mod PlaceLemmas
pub mod MeetsLemmas
pub mod CutLemmas
pub mod ActorLemmas
pub mod ExampleLemmas
pub mod WitnessLemmas
pub mod ExchangeLemmas
