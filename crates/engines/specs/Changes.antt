-- The changes of a view, as a function: the one consolidated list of updates that sums to the
-- wanted rows at each passed time (McSherry et al., Differential Dataflow, CIDR 2013). It is built
-- time by time, in order.
use Rattle.std.specs.Prelude.{List, [], ◌∷◌, ◌++◌, map, if◌then◌else◌}
use Rattle.std.specs.declared.cmp.Ordering.{Ordering}
use Rattle.update.specs.Bags.{Entry}
use Rattle.update.specs.Joins.{joins_of}
use Rattle.update.specs.Updates.{as_of}
use Rattle.update.specs.declared.change.Update.{Update}
use Rattle.plan.specs.Changes.{has_passed}
use Rattle.plan.specs.Operators.{negated_entry}
use Rattle.oracle.specs.Listing.{at_time}
use Rattle.engines.specs.Bags.{consolidated_bag}
use Rattle.engines.specs.Orders.{in_order}
use Rattle.lattice.specs.Times.{Times}

module _ {T : Type 0} (times : Times T) where
  -- the wanted rows at t, minus the updates listed at or before t
  abbrev pub missing : List Entry → T → List (Update T) → List Entry
  missing wanted t listed = consolidated_bag (wanted ++ map negated_entry (as_of times t listed))

  -- at each of these times that has passed, the missing rows are listed after the updates that are
  -- already there
  abbrev pub listed_along : List T → (T → List Entry) → List T → List (Update T) → List (Update T)
  listed_along frontier wanted [] listed = listed
  listed_along frontier wanted (t ∷ ts) listed =
      listed_along frontier wanted ts (if has_passed times frontier t then listed ++ map (at_time t) (missing (wanted t) t listed) else listed)

  -- the list that sums to the wanted rows, if these change only at joins of these times
  abbrev pub changes_along : (T → T → Ordering) → List T → (T → List Entry) → List T
      → List (Update T)
  changes_along cmp frontier wanted elements =
      listed_along frontier wanted (in_order cmp (joins_of times elements)) []
