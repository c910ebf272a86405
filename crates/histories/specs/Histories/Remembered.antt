-- The parts of an event. The board makes an event of the arguments of a call, remembers it for
-- clauses alone, and takes the arguments out again. So nothing is copied, and these definitions say
-- that nothing is lost.
use Rattle.std.specs.Prelude.{◌≡◌, List, ⊤}
use Rattle.histories.specs.declared.event.Bundle.{Bundle}
use Rattle.histories.specs.declared.event.Fed.{Fed}
use Rattle.histories.specs.declared.event.Event.{Event}
use Rattle.histories.specs.declared.event.Event.TheVariants.{Feed, Advance, Take}

module _ {T : Type 0} where
  abbrev pub IsFeeding : Event T → Type 0
  IsFeeding (Feed client f) = ⊤
  IsFeeding e = ⊥

  -- the change of a feed
  abbrev pub HasFed : Event T → Fed T → Type 0
  HasFed (Feed client f) fed = fed ≡ f
  HasFed e fed = ⊥

  abbrev pub IsAdvancing : Event T → Type 0
  IsAdvancing (Advance client input ts) = ⊤
  IsAdvancing e = ⊥

  -- the times of an advance
  abbrev pub HasAdvanced : Event T → List T → Type 0
  HasAdvanced (Advance client input ts) us = us ≡ ts
  HasAdvanced e us = ⊥

  abbrev pub IsTaking : Event T → Type 0
  IsTaking (Take number bundle) = ⊤
  IsTaking e = ⊥

  -- the bundle of a take
  abbrev pub HasTaken : Event T → Bundle T → Type 0
  HasTaken (Take number bundle) taken = taken ≡ bundle
  HasTaken e taken = ⊥
