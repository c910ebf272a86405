-- What is promised of every legal history, each promise in a few lines. Most speak of one node, in
-- the state that a history leaves.
use Rattle.std.specs.Prelude.{◌≡◌, ℕ, ◌<◌, ◌≤◌, Bool, false, not, ◌&&◌, eqb, List, [], IsTrue, take, length, ℤ, ◌||◌, ◌⊎◌, ◌≢◌, Contains, Some}
use Rattle.std.specs.List.{filter, list_all}
use Rattle.std.specs.declared.cmp.Ordering.{Ordering}
use Rattle.update.specs.Bags.{Alike}
use Rattle.update.specs.Updates.{as_of, size, total_at, AreApart, IsConsolidated}
use Rattle.update.specs.declared.change.Update.{Update}
use Rattle.plan.specs.Ancestors.{numbers_below}
use Rattle.plan.specs.Changes.{has_passed, query_at, AreDifferences}
use Rattle.plan.specs.Nodes.{key_width, sources, is_linear, is_reduction}
use Rattle.plan.specs.Bounds.{IsBound, output_bound}
use Rattle.plan.specs.declared.kind.Kind.{Kind}
use Rattle.plan.specs.declared.node.Node.TheVariants.{Reduce}
use Rattle.histories.specs.declared.event.Bundle.{Bundle}
use Rattle.histories.specs.declared.event.HeldTime.{HeldTime}
use Rattle.histories.specs.declared.event.OpenTime.{OpenTime}
use Rattle.histories.specs.Histories.Dataflows.{Dataflow, node_of, source_of, node_output, upstream, route}
use Rattle.histories.specs.Histories.States.{State, update_times, emitted_at, emitted_by, fed_to, held_at}
use Rattle.histories.specs.Histories.Outstanding.{frontier, input_frontier, port_frontier}
use Rattle.histories.specs.Histories.NodeLaws.{received_at}
use Rattle.histories.specs.Histories.{IsInput, state_after}
use Rattle.histories.specs.declared.event.Site.{Site}
use Rattle.histories.specs.declared.event.Event.{Event}
use Rattle.lattice.specs.Times.{Times}

-- the changes that were fed, by input
abbrev pub changes_in : {T : Type 0} → State T → ℕ → List (Update T)
changes_in w i = fed_to i w.fed

-- the changes that were fed in a history, by input
abbrev pub changes_after : {T : Type 0} → Times T → Dataflow → List (Event T) → ℕ
    → List (Update T)
changes_after times opened h = changes_in (state_after times opened h)

module _ {T : Type 0} (times : Times T) (p : Dataflow) (w : State T) (n : ℕ) where
  -- the headline: if the node's frontier has passed a time, then what the node gave on all workers,
  -- summed to that time, is the query on the changes fed, summed to that time
  abbrev pub MeetsQuery : Type 0
  MeetsQuery = (t : T) → IsTrue (has_passed times (frontier times p w n) t)
      → Alike (as_of times t (emitted_at n w.emitted)) (query_at times p.nodes (changes_in w) n t)

  -- what the node gave is the one list of differences of its query. `into`: a consolidated list at
  -- passed times that sums at each passed time to what the node gave is that list. `back`: at each
  -- passed time, each row has the same total in that list as in what the node gave
  pub record MeetsDifferences (cmp : T → T → Ordering) : Type 0 where
    pub into : (us : List (Update T)) → IsConsolidated cmp us
        → IsTrue (list_all (λ u. has_passed times (frontier times p w n) u.time) us)
        → ((t : T) → IsTrue (has_passed times (frontier times p w n) t)
        → Alike (as_of times t us) (as_of times t (emitted_at n w.emitted)))
        → AreDifferences times cmp p.nodes (changes_in w) (frontier times p w n) n us
    pub back : (us : List (Update T))
        → AreDifferences times cmp p.nodes (changes_in w) (frontier times p w n) n us
        → (row : List ℤ) (t : T) → IsTrue (has_passed times (frontier times p w n) t)
        → total_at times row t us ≡ total_at times row t (emitted_at n w.emitted)

  -- at a join or reduction: if the input frontier and the times that the worker still holds there
  -- have passed a time, then what the worker gave, summed to that time, is the part of the query
  -- whose keys are its own
  abbrev pub MeetsPart : ℕ → Type 0
  MeetsPart k = is_linear (node_of p n) ≡ false → (t : T)
      → IsTrue (has_passed times (input_frontier times p w n) t)
      → IsTrue (has_passed times (held_at n k w.held) t)
      → Alike (as_of times t (emitted_by n k w.emitted))
      (filter (λ e. eqb (route p (take (key_width p.nodes (node_of p n)) e.row)) k)
      (query_at times p.nodes (changes_in w) n t))

  -- nothing is outstanding at or before a time: no stamp and no update of a bundle in flight at the
  -- node or above it, no element of an input's frontier there, and no time that is held at a node
  -- that passes the test
  pub record IsClearAt (holding : ℕ → Bool) (t : T) : Type 0 where
    pub in_flight : IsTrue (list_all (λ b. not (upstream p n b.place.node)
        || (has_passed times b.stamp t && has_passed times (update_times b.updates) t)) w.in_flight)
    pub held : IsTrue (list_all (λ m. not (holding m.node && times.below m.time t)) w.held)
    pub inputs : IsTrue (list_all (λ o. not (upstream p n o.input && times.below o.time t)) w.open_times)

  -- if the node's frontier has passed a time, nothing is outstanding at or before it, at the node
  -- or above it
  abbrev pub NothingLurks : Type 0
  NothingLurks = (t : T) → IsTrue (has_passed times (frontier times p w n) t)
      → IsClearAt (upstream p n) t

  -- for a node that reads others, the input frontier has passed a time exactly if the frontiers of
  -- all its ports have
  abbrev pub PortsAreInput : Type 0
  PortsAreInput = 1 ≤ length (sources (node_of p n)) → (t : T)
      → has_passed times (input_frontier times p w n) t
      ≡ list_all (λ port. has_passed times (port_frontier times p w n port) t)
      (numbers_below (length (sources (node_of p n))))

  -- the absolute diffs that the node gave, on all workers, add up to no more than its bound
  abbrev pub KeepsBound : (T → T → Ordering) → Type 0
  KeepsBound cmp = (weight : ℕ) → IsBound times cmp p.nodes (changes_in w) n weight
      → size (emitted_at n w.emitted) ≤ weight

  -- a reduction's updates of the rows that pass a test, up to some step of its computation. Each
  -- row occurs at most once at each time, and the input frontier has passed each time. At each time
  -- at or before one of theirs, they sum to what the worker owes of such rows
  pub record AreOwed (test : List ℤ → Bool) (k : ℕ) (us : List (Update T)) : Type 0 where
    pub apart : AreApart times us
    pub passed : IsTrue (list_all (λ u. has_passed times (input_frontier times p w n) u.time) us)
    pub sums : (u : Update T) → Contains us u → (t : T) → IsTrue (times.below t u.time)
        → Alike (as_of times t us) (filter (λ e. test e.row)
        (node_output p n (λ port. as_of times t (received_at w n k port))))

  -- so such updates stay within the bound, and a reduction may answer that a number is too large
  -- only if its bound is
  abbrev pub OwesWithinBound : (T → T → Ordering) → Type 0
  OwesWithinBound cmp = (source : ℕ) (kind : Kind) → node_of p n ≡ Reduce kind source
      → (test : List ℤ → Bool) (k : ℕ) (us : List (Update T)) → AreOwed test k us
      → (weight : ℕ) → IsBound times cmp p.nodes (changes_in w) n weight → size us ≤ weight

  -- what a worker received at a port is within the bound of the node that the port reads
  abbrev pub TakesWithinBound : (T → T → Ordering) → Type 0
  TakesWithinBound cmp = (port source : ℕ) → source_of p n port ≡ Some source
      → (k : ℕ) → k < p.workers
      → (weight : ℕ) → IsBound times cmp p.nodes (changes_in w) source weight
      → size (received_at w n k port) ≤ weight

  -- at a node that is no reduction, what the node may make of what a worker received (at a join the
  -- product of both ports) is within the node's own bound
  abbrev pub LoadsWithinBound : (T → T → Ordering) → Type 0
  LoadsWithinBound cmp = is_reduction (node_of p n) ≡ false → (k : ℕ) → k < p.workers
      → (weight : ℕ) → IsBound times cmp p.nodes (changes_in w) n weight
      → output_bound (node_of p n) 0 (λ port. size (received_at w n k port)) ≤ weight

-- what the earlier frontier has passed, the later one has passed too
abbrev pub NeverGoesBack : {T : Type 0} → Times T → List T → List T → Type 0
NeverGoesBack {T} times earlier later = (t : T) → IsTrue (has_passed times earlier t)
    → IsTrue (has_passed times later t)

-- a place that exists: a node, one of its ports (an input has the port 0), and a worker
pub record IsPlace (p : Dataflow) (site : Site) : Type 0 where
  pub node : site.node < length p.nodes
  pub port : (site.port ≡ 0) ⊎ (site.port < length (sources (node_of p site.node)))
  pub worker : site.worker < p.workers

-- everything that waits is at a place that exists: bundles, none of which is empty, held times,
-- open inputs, and pieces in hand
pub record IsInPlace {T : Type 0} (p : Dataflow) (w : State T) : Type 0 where
  pub bundles : (b : Bundle T) → Contains w.in_flight b → IsPlace p b.place × (b.updates ≢ [])
  pub held : (m : HeldTime T) → Contains w.held m
      → (m.node < length p.nodes) × (m.worker < p.workers)
  pub inputs : (o : OpenTime T) → Contains w.open_times o → IsInput p o.input
  pub hand : (k n : ℕ) → w.hand k ≡ Some n → (n < length p.nodes) × (k < p.workers)
