-- Histories over times that are pairs: two bundles that wait at one place, and two workers that
-- exchange updates at times that cannot be compared.
use Rattle.std.specs.Prelude.{ℕ, List, [], ◌∷◌, pos, negsuc}
use Rattle.lattice.specs.Bitimes.{bitime_times, Bitime}
use Rattle.lattice.specs.Pairs.{make_pair}
use Rattle.update.specs.declared.change.Update.{Update}
use Rattle.histories.specs.declared.event.Bundle.{Bundle}
use Rattle.histories.specs.declared.event.Emission.{Emission}
use Rattle.histories.specs.declared.event.Event.{Event}
use Rattle.histories.specs.declared.event.Event.TheVariants.{Feed, Advance, Take, TakeHeld, Give}
use Rattle.histories.specs.Histories.Cuts.{cut}
use Rattle.histories.specs.Histories.Dataflows.{Dataflow}
use Rattle.histories.specs.Histories.States.{State, change_to, place}
use Rattle.histories.specs.Histories.Witnesses.{bundle_of, copying, counting, open_from, seven_comes}

-- worker k gives these updates at node n, cut as a routing cuts them, and then holds these times
-- there
abbrev pub given_by : ℕ → ℕ → List (Update Bitime) → Emission Bitime
given_by k n us = record { node = n; worker = k; updates = us }

abbrev pub gives : Dataflow → ℕ → ℕ → List (Update Bitime) → List Bitime → Event Bitime
gives p k n us ts = Give (given_by k n us) ts (cut bitime_times p (given_by k n us))

-- the row (7) comes to the input of `copying` at (0, 3), and then at (3, 0): two bundles, which
-- wait for worker 1
abbrev pub first_bundle : Bundle Bitime
first_bundle = bundle_of (place 0 0 1) (seven_comes 0 3 ∷ [])

abbrev pub second_bundle : Bundle Bitime
second_bundle = bundle_of (place 0 0 1) (seven_comes 3 0 ∷ [])

abbrev pub two_wait : List (Event Bitime)
two_wait = Feed 2 (change_to 0 (seven_comes 3 0)) ∷ Feed 2 (change_to 0 (seven_comes 0 3)) ∷ []

-- worker 1 takes the first one, gives it, and takes the second one
abbrev pub taken_in_order : List (Event Bitime)
taken_in_order = Take 0 second_bundle ∷ gives copying 1 0 (seven_comes 0 3 ∷ []) []
    ∷ Take 0 first_bundle ∷ two_wait

-- both bundles wait at the arrange node of `listing` instead
abbrev pub two_wait_at_arrange : State Bitime
two_wait_at_arrange = record (open_from (make_pair 0 0)) {
  in_flight = bundle_of (place 1 0 1) (seven_comes 0 3 ∷ [])
      ∷ bundle_of (place 1 0 1) (seven_comes 3 0 ∷ []) ∷ [];
}

-- the row (7, amount) comes at a time. In `counting` its key is 7
abbrev pub amount_comes : ℕ → Bitime → Update Bitime
amount_comes amount t = record { time = t; row = pos 7 ∷ pos amount ∷ []; diff = pos 1 }

-- the row (7, 1) at (0, 3), whose input is on worker 0, and (7, 2) at (3, 0), whose input is on
-- worker 1. The key 7 belongs to worker 1
abbrev pub one_comes : Update Bitime
one_comes = amount_comes 1 (make_pair 0 3)

abbrev pub two_comes : Update Bitime
two_comes = amount_comes 2 (make_pair 3 0)

-- how many rows the key 7 has: one from (0, 3) on, one from (3, 0) on, and two from (3, 3) on
abbrev pub sevens_counted : List (Update Bitime)
sevens_counted = amount_comes 1 (make_pair 0 3) ∷ amount_comes 1 (make_pair 3 0)
    ∷ record (amount_comes 1 (make_pair 3 3)) { diff = negsuc 1 }
    ∷ amount_comes 2 (make_pair 3 3) ∷ []

-- two clients feed the two changes. Both workers have taken one of them
abbrev pub both_take : List (Event Bitime)
both_take = Take 0 (bundle_of (place 0 0 1) (two_comes ∷ []))
    ∷ Take 0 (bundle_of (place 0 0 0) (one_comes ∷ []))
    ∷ Feed 3 (change_to 0 two_comes) ∷ Feed 2 (change_to 0 one_comes) ∷ []

-- both workers give to the arrange node. There worker 1 takes the second bundle first
abbrev pub both_give : List (Event Bitime)
both_give = Take 1 (bundle_of (place 1 0 1) (two_comes ∷ []))
    ∷ gives counting 1 0 (two_comes ∷ []) [] ∷ gives counting 0 0 (one_comes ∷ []) [] ∷ both_take

abbrev pub both_arranged : List (Event Bitime)
both_arranged = gives counting 1 1 (one_comes ∷ []) []
    ∷ Take 0 (bundle_of (place 1 0 1) (one_comes ∷ []))
    ∷ gives counting 1 1 (two_comes ∷ []) [] ∷ both_give

-- at the count worker 1 takes both, and holds their times
abbrev pub one_held : List (Event Bitime)
one_held = Take 0 (bundle_of (place 2 0 1) (one_comes ∷ []))
    ∷ gives counting 1 2 [] (make_pair 3 0 ∷ [])
    ∷ Take 0 (bundle_of (place 2 0 1) (two_comes ∷ [])) ∷ both_arranged

abbrev pub both_held : List (Event Bitime)
both_held = Advance 2 0 (make_pair 4 4 ∷ [])
    ∷ gives counting 1 2 [] (make_pair 3 0 ∷ make_pair 0 3 ∷ []) ∷ one_held

-- the frontier moves on, and worker 1 gives the counts, which the view captures
abbrev pub sevens_given : List (Event Bitime)
sevens_given = gives counting 1 2 sevens_counted [] ∷ TakeHeld 1 2 ∷ both_held

abbrev pub exchange : List (Event Bitime)
exchange = gives counting 1 3 sevens_counted []
    ∷ Take 0 (bundle_of (place 3 0 1) sevens_counted) ∷ sevens_given
