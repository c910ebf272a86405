-- The interval of times between two frontiers (Murray et al., Naiad, SOSP 2013).
use Rattle.std.specs.Prelude.{Bool, not, ◌&&◌, List}
use Rattle.std.specs.List.{filter, list_all}
use Rattle.lattice.specs.Times.{Times}
use Rattle.lattice.specs.Frontiers.{is_beyond, all_beyond}
use Rattle.update.specs.declared.change.Update.{Update}

module _ {T : Type 0} (times : Times T) where
  -- t is beyond the lower frontier, and the upper one has passed it
  abbrev pub is_between : List T → List T → T → Bool
  is_between lower upper t = is_beyond times lower t && not (is_beyond times upper t)

  -- each update's time is between the frontiers
  abbrev pub all_between : List T → List T → List (Update T) → Bool
  all_between lower upper us = list_all (λ u. is_between lower upper u.time) us

  -- each update's time is beyond the frontier
  abbrev pub all_times_beyond : List T → List (Update T) → Bool
  all_times_beyond lower us = list_all (λ u. is_beyond times lower u.time) us

  -- the upper frontier is beyond the lower one, and each update's time is between them
  abbrev pub is_interval_of : List T → List T → List (Update T) → Bool
  is_interval_of lower upper us = all_beyond times lower upper && all_between lower upper us

  -- the updates whose times the frontier has passed, in their order
  abbrev pub passed_updates : List T → List (Update T) → List (Update T)
  passed_updates upper us = filter (λ u. not (is_beyond times upper u.time)) us

  -- the updates whose times are beyond the frontier, in their order
  abbrev pub open_updates : List T → List (Update T) → List (Update T)
  open_updates upper us = filter (λ u. is_beyond times upper u.time) us
