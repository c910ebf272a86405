-- A session by definition: the accepted changes, the inputs' frontiers, and the frontier from which
-- each view may be read. It knows neither workers nor differences.
use Rattle.std.specs.Prelude.{ℕ, not, List, [], ◌∷◌, length, map, set, Option}
use Rattle.std.specs.declared.cmp.Ordering.{Ordering}
use Rattle.lattice.specs.Times.{Times}
use Rattle.lattice.specs.Frontiers.{is_beyond}
use Rattle.antichain.specs.Antichains.{least}
use Rattle.update.specs.Bags.{Entry}
use Rattle.update.specs.declared.change.Update.{Update}
use Rattle.update.specs.declared.refusal.Refusal.{Refusal}
use Rattle.update.specs.declared.refusal.Refusal.TheVariants.{NotPassed, GivenUp}
use Rattle.plan.specs.Changes.{query_at, open_for}
use Rattle.plan.specs.Rules.{first_refusal}
use Rattle.plan.specs.declared.node.Node.{Node}
use Rattle.histories.specs.declared.event.Fed.{Fed}
use Rattle.histories.specs.Histories.{with_at}
use Rattle.histories.specs.Histories.States.{fed_to}
use Rattle.histories.specs.Histories.Readings.{is_from_start}
use Rattle.outstanding.specs.Inputs.{front_at, first_inputs, feed_faults, advance_faults}
use Rattle.engines.specs.Bags.{consolidated_bag}
use Rattle.engines.specs.Changes.{changes_along}
use Rattle.engines.specs.Orders.{in_order}

-- what the commands so far have led to; the rest of the text depends on nothing else
pub record Session (T : Type 0) : Type 0 where
  -- the accepted changes, newest first
  pub fed : List (Fed T)
  -- the frontier of each input, by node number
  pub inputs : List (List T)
  -- for each view, the frontier beyond which it may be read
  pub since : ℕ → List T

module _ {T : Type 0} where
  -- before the first command nothing has been accepted, each input's frontier is the least time,
  -- and each view may be read from there on
  abbrev pub first_session : T → List Node → Session T
  first_session minimum p =
      record { fed = []; inputs = first_inputs minimum p; since = λ _. minimum ∷ [] }

  -- the session after an accepted change
  abbrev pub with_change : Fed T → Session T → Session T
  with_change f s = record s { fed = f ∷ s.fed }

  -- the session after a new frontier of an input; without times, the input is closed
  abbrev pub with_frontier : ℕ → List T → Session T → Session T
  with_frontier i ts s = record s { inputs = set s.inputs i ts }

  -- the session after readers of a view gave up what is not beyond these times
  abbrev pub with_since : ℕ → List T → Session T → Session T
  with_since v ts s = record s { since = with_at s.since v ts }

module _ {T : Type 0} (times : Times T) (p : List Node) (s : Session T) where
  -- the refusal of a change
  abbrev pub change_refusal : Fed T → Option Refusal
  change_refusal f =
      first_refusal (feed_faults times p (front_at f.input s.inputs) (length (fed_to f.input s.fed)) f)

  -- the refusal of a new frontier of an input: each of its times must be beyond the old frontier
  abbrev pub frontier_refusal : ℕ → List T → Option Refusal
  frontier_refusal i ts = first_refusal (advance_faults times (front_at i s.inputs) ts)

  -- the refusal of a new since of a view: each of its times must be beyond the old one
  abbrev pub since_refusal : ℕ → List T → Option Refusal
  since_refusal v ts = first_refusal (advance_faults times (s.since v) ts)

  -- the frontier of a view: the least times of the frontiers of all inputs that feed it
  abbrev pub view_frontier : ℕ → List T
  view_frontier v = least times (open_for times p (λ i. front_at i s.inputs) v)

  -- the refusal of a read: the view may still change at the time, or readers gave up the time
  abbrev pub read_refusal : ℕ → T → Option Refusal
  read_refusal v t =
      first_refusal ((is_beyond times (view_frontier v) t, NotPassed) ∷ (not (is_beyond times (s.since v) t), GivenUp) ∷ [])

  -- the refusal when asked for a view's changes: readers gave up some time
  abbrev pub changes_refusal : ℕ → Option Refusal
  changes_refusal v =
      first_refusal ((not (is_from_start times (s.since v)), GivenUp) ∷ [])

  -- the rows of a view at a time: the query, from scratch, on the accepted changes at or before it
  abbrev pub rows_at : ℕ → T → List Entry
  rows_at v t = consolidated_bag (query_at times p (λ i. fed_to i s.fed) v t)

  -- the frontier of a view, in order
  abbrev pub frontier_at : (T → T → Ordering) → ℕ → List T
  frontier_at cmp v = in_order cmp (view_frontier v)

  -- the changes of a view at the times that its frontier has passed: the one list of updates that
  -- sums, at each of these times, to the query, from scratch, on the accepted changes
  abbrev pub changes_at : (T → T → Ordering) → ℕ → List (Update T)
  changes_at cmp v =
      changes_along times cmp (view_frontier v) (λ t. query_at times p (λ i. fed_to i s.fed) v t) (map (λ f. f.update.time) s.fed)
