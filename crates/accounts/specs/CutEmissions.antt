-- An emission and the bundles that are sent of it: which of them has the updates.
use Rattle.std.specs.Prelude.{◌<◌, List, [], ◌∷◌, length, ⊤, Option, Some, None}
use Rattle.update.specs.declared.change.Update.{Update}
use Rattle.histories.specs.declared.event.Bundle.{Bundle}
use Rattle.histories.specs.declared.event.Emission.{Emission}

-- what a worker gives, and the bundles in which it goes on
pub record CutState (T : Type 0) : Type 0 where
  pub given : Emission T
  pub sent : List (Bundle T)

module _ {T : Type 0} where
  -- the updates of the last bundle
  abbrev pub last_updates : List (Bundle T) → List (Update T)
  last_updates [] = []
  last_updates (b ∷ []) = b.updates
  last_updates (b ∷ (c ∷ bs)) = last_updates (c ∷ bs)

  -- the updates that are given: those of a list of their own, or else those of the last bundle
  abbrev pub updates_in : Option (List (Update T)) → List (Bundle T) → List (Update T)
  updates_in (Some us) sent = us
  updates_in None sent = last_updates sent

  -- one of the two has them
  abbrev pub HasUpdates : Option (List (Update T)) → List (Bundle T) → Type 0
  HasUpdates (Some us) sent = ⊤
  HasUpdates None sent = 0 < length sent
