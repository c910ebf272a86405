-- Frontiers, as lists of times. The times that are still open are those beyond the frontier (Murray
-- et al., Naiad, SOSP 2013; Abadi and Isard, Timely Dataflow: A Model, 2015).
use Rattle.std.specs.Prelude.{Bool, List}
use Rattle.std.specs.List.{list_any, list_all}
use Rattle.lattice.specs.Times.{Times}

module _ {T : Type 0} (times : Times T) where
  -- some element of the frontier is at or before t; otherwise the frontier has passed t
  abbrev pub is_beyond : List T → T → Bool
  is_beyond frontier t = list_any (λ f. times.below f t) frontier

  -- each element of the later frontier is beyond the earlier one
  abbrev pub all_beyond : List T → List T → Bool
  all_beyond earlier later = list_all (λ t. is_beyond earlier t) later
