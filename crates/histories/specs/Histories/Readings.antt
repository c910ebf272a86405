-- What is read of a view, and when a board is quiet.
use Rattle.std.specs.Prelude.{◌≡◌, ℕ, ◌<◌, Bool, List, [], IsTrue, None}
use Rattle.std.specs.List.{list_all}
use Rattle.lattice.specs.Times.{Times}
use Rattle.lattice.specs.Frontiers.{is_beyond}
use Rattle.antichain.specs.Antichains.{SameElements, least}
use Rattle.update.specs.Bags.{Alike}
use Rattle.update.specs.Updates.{as_of}
use Rattle.update.specs.declared.change.Update.{Update}
use Rattle.plan.specs.Changes.{has_passed, query_at, open_for}
use Rattle.histories.specs.Histories.Dataflows.{Dataflow}
use Rattle.histories.specs.Histories.States.{State, emitted_at, open_at}
use Rattle.histories.specs.Histories.Outstanding.{frontier, input_frontier}
use Rattle.histories.specs.Histories.Promises.{changes_in}

module _ {T : Type 0} (times : Times T) where
  -- the least time is beyond the since, so nothing was given up
  abbrev pub is_from_start : List T → Bool
  is_from_start since = is_beyond times since times.least

module _ {T : Type 0} (times : Times T) (p : Dataflow) (w : State T) where
  -- a reading of a view: its frontier, its since, and updates that sum to what it captured at every
  -- time beyond the since
  pub record IsReading (view : ℕ) (us : List (Update T)) (front since : List T) : Type 0 where
    pub stands : SameElements front (frontier times p w view)
    pub held : since ≡ w.since view
    pub sums : (t : T) → IsTrue (is_beyond times since t)
        → Alike (as_of times t us) (as_of times t (emitted_at view w.emitted))

  -- so at a time that is passed and still held, the reading sums to the query
  abbrev pub ReadsQuery : Type 0
  ReadsQuery = (view : ℕ) (us : List (Update T)) (front since : List T)
      → IsReading view us front since
      → (t : T) → IsTrue (has_passed times front t) → IsTrue (is_beyond times since t)
      → Alike (as_of times t us) (query_at times p.nodes (changes_in w) view t)

  -- nothing is in flight or in hand, and each held time could still receive input at or before it
  pub record IsQuiet : Type 0 where
    pub in_flight : w.in_flight ≡ []
    pub hand : (k : ℕ) → k < p.workers → w.hand k ≡ None
    pub held : IsTrue (list_all (λ m. is_beyond times (input_frontier times p w m.node) m.time) w.held)

  -- the node's frontier is the least of the frontiers of the inputs that feed it; on a quiet board
  -- this holds of each node
  abbrev pub IsCaughtUp : ℕ → Type 0
  IsCaughtUp n = SameElements (frontier times p w n)
      (least times (open_for times p.nodes (λ i. open_at i w.open_times) n))
