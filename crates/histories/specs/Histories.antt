-- Histories: lists of events, the newest first. This file says what state each event leaves, and in
-- which states it is allowed. A history is legal if each of its events was allowed in the state
-- before it. An event is judged by that state alone, not by how an engine came to it.
pub mod States
pub mod Dataflows
pub mod Shares
pub mod Outstanding
pub mod NodeLaws
pub mod Actors
pub mod Promises
pub mod Readings
pub mod Remembered
pub mod Examples
pub mod Witnesses
pub mod Cuts
pub mod Exchanges
use Rattle.std.specs.Prelude.{◌≡◌, ℕ, zero, suc, ◌<◌, ◌≤◌, ◌≢◌, Bool, not, ◌&&◌, eqb, if◌then◌else◌, List, [], ◌∷◌, ◌++◌, map, length, Some, None, IsTrue, Contains, ⊤, pos, unsigned_abs, slice_get, ℤ}
use Rattle.std.specs.List.{filter, flat_map}
use Rattle.lattice.specs.Times.{Times}
use Rattle.lattice.specs.Frontiers.{is_beyond, all_beyond}
use Rattle.update.specs.declared.change.Update.{Update}
use Rattle.update.specs.Bags.{total_by}
use Rattle.plan.specs.Changes.{has_passed}
use Rattle.plan.specs.Edges.{numbers_where}
use Rattle.plan.specs.Nodes.{arranged_by, is_input, is_output}
use Rattle.plan.specs.Widths.{width_of}
use Rattle.histories.specs.declared.event.Site.{Site}
use Rattle.histories.specs.declared.event.Bundle.{Bundle}
use Rattle.histories.specs.declared.event.Fed.{Fed}
use Rattle.histories.specs.declared.event.Emission.{Emission}
use Rattle.histories.specs.declared.event.HeldTime.{HeldTime}
use Rattle.histories.specs.declared.event.OpenTime.{OpenTime}
use Rattle.histories.specs.declared.event.Event.{Event}
use Rattle.histories.specs.declared.event.Event.TheVariants.{Feed, Advance, Allow, Look, Take, TakeHeld, Give}
use Rattle.histories.specs.Histories.Dataflows.{Dataflow, node_of}
use Rattle.histories.specs.Histories.States.{State, update_times, same_place, updates_at, queue, emitted_at, fed_to, held_at, open_at}
use Rattle.histories.specs.Histories.Shares.{home, share, are_filled, are_stamped}
use Rattle.histories.specs.Histories.Outstanding.{frontier, input_frontier, port_frontier}
use Rattle.histories.specs.Histories.NodeLaws.{NodeLaw, LoadRule}

-- the function with another value at one number
abbrev pub with_at : {A : Type 0} → (ℕ → A) → ℕ → A → ℕ → A
with_at f i value j = if eqb j i then value else f j

module _ {T : Type 0} where
  -- the bundles, except the one of this number, from 0, among those of a place
  abbrev pub without : Site → List (Bundle T) → ℕ → List (Bundle T)
  without site [] number = []
  without site (b ∷ bundles) zero =
      if same_place b.place site then bundles else b ∷ without site bundles zero
  without site (b ∷ bundles) (suc number) =
      b ∷ (if same_place b.place site then without site bundles number
      else without site bundles (suc number))

  -- worker k holds the time at node n
  abbrev pub is_held_by : ℕ → ℕ → HeldTime T → Bool
  is_held_by n k m = eqb m.node n && eqb m.worker k

  -- the times, as entries of what a worker holds at a node
  abbrev pub held_entries : ℕ → ℕ → List T → List (HeldTime T)
  held_entries n k ts = map (λ t. record { node = n; worker = k; time = t }) ts

  -- the times, as elements of an input's frontier
  abbrev pub open_entries : ℕ → List T → List (OpenTime T)
  open_entries i ts = map (λ t. record { input = i; time = t }) ts

-- the actor of an event. Workers are numbered from 0, and clients from the number of workers on
abbrev pub actor_of : {T : Type 0} → Event T → ℕ
actor_of (Feed client f) = client
actor_of (Advance client i ts) = client
actor_of (Allow client v ts) = client
actor_of (Look actor) = actor
actor_of (Take number bundle) = bundle.place.worker
actor_of (TakeHeld k n) = k
actor_of (Give g ts sent) = g.worker

-- the node is an input of the plan
abbrev pub IsInput : Dataflow → ℕ → Type 0
IsInput p n = (n < length p.nodes) × IsTrue (is_input (node_of p n))

-- the node is a view: only views have a since that readers may move
abbrev pub may_be_allowed : Dataflow → ℕ → Bool
may_be_allowed p v = is_output (node_of p v)

-- a change as a bundle of its own, as it waits at its input
abbrev pub alone : {T : Type 0} → Dataflow → Fed T → Bundle T
alone p f = record { place = home p f; updates = f.update ∷ []; stamp = f.update.time ∷ [] }

module _ {T : Type 0} (times : Times T) (p : Dataflow) where
  -- the state after a worker took a node's piece in hand. The node's input frontier at that moment
  -- is recorded
  abbrev pub turn_state : State T → ℕ → ℕ → State T
  turn_state w n k = record w {
    hand = with_at w.hand k (Some n);
    observed = record { node = n; worker = k; frontier = input_frontier times p w n } ∷ w.observed;
  }

  -- the state after a bundle was received: it is no longer in flight, and its stamp is held from
  -- then on
  abbrev pub take_state : State T → ℕ → Bundle T → State T
  take_state w number bundle = record w {
    in_flight = without bundle.place w.in_flight number;
    received = bundle ∷ w.received;
    held = w.held ++ held_entries bundle.place.node bundle.place.worker bundle.stamp;
  }

  -- the state after a give: what was sent is in flight, and the worker holds these times at the
  -- node and no other
  abbrev pub give_state : State T → Emission T → List T → List (Bundle T) → State T
  give_state w g ts sent = record w {
    in_flight = w.in_flight ++ sent;
    emitted = g ∷ w.emitted;
    held = held_entries g.node g.worker ts ++ filter (λ m. not (is_held_by g.node g.worker m)) w.held;
    hand = with_at w.hand g.worker None;
  }

  -- the state after an event
  abbrev pub next_state : State T → Event T → State T
  next_state w (Feed client f) =
      record w { fed = f ∷ w.fed; in_flight = w.in_flight ++ alone p f ∷ [] }
  next_state w (Advance client i ts) =
      record w { open_times = open_entries i ts ++ filter (λ o. not (eqb o.input i)) w.open_times }
  next_state w (Allow client v ts) = record w { since = with_at w.since v ts }
  next_state w (Look actor) = w
  next_state w (Take number bundle) =
      turn_state (take_state w number bundle) bundle.place.node bundle.place.worker
  next_state w (TakeHeld k n) = turn_state w n k
  next_state w (Give g ts sent) = give_state w g ts sent

  -- a client may feed this change: the row has the input's width, the diff is not 0 and is at most
  -- 2147483647 either way, the time is beyond the input's frontier, and the input has fewer than
  -- 1048576 changes
  pub record IsFeed (w : State T) (actor : ℕ) (f : Fed T) : Type 0 where
    pub client : p.workers ≤ actor
    pub input : IsInput p f.input
    pub width : length f.update.row ≡ width_of p.nodes f.input
    pub some : f.update.diff ≢ pos 0
    pub small : unsigned_abs f.update.diff ≤ 2147483647
    pub not_passed : IsTrue (is_beyond times (open_at f.input w.open_times) f.update.time)
    pub room : length (fed_to f.input w.fed) < 1048576

  -- a client may move an input's frontier to these times: each is beyond the old frontier
  pub record IsAdvance (w : State T) (actor i : ℕ) (ts : List T) : Type 0 where
    pub client : p.workers ≤ actor
    pub input : IsInput p i
    pub onward : IsTrue (all_beyond times (open_at i w.open_times) ts)

  -- a client may move a view's since to these times: each is beyond the old since
  pub record IsAllow (w : State T) (actor v : ℕ) (ts : List T) : Type 0 where
    pub client : p.workers ≤ actor
    pub within : v < length p.nodes
    pub view : IsTrue (may_be_allowed p v)
    pub onward : IsTrue (all_beyond times (w.since v) ts)

  -- a worker with nothing in hand may take a bundle that waits: the first of its place, or any at
  -- an arrange node
  pub record IsTake (w : State T) (number : ℕ) (bundle : Bundle T) : Type 0 where
    pub worker : bundle.place.worker < p.workers
    pub free : w.hand bundle.place.worker ≡ None
    pub waits : slice_get (queue bundle.place w.in_flight) number ≡ Some bundle
    pub turn : arranged_by (node_of p bundle.place.node) ≡ None → number ≡ 0

  -- a worker with nothing in hand may turn to a node if the node's input frontier has passed a time
  -- that it holds there
  pub record IsTakeHeld (w : State T) (k n : ℕ) : Type 0 where
    pub worker : k < p.workers
    pub within : n < length p.nodes
    pub free : w.hand k ≡ None
    pub held : T
    pub holds : Contains (held_at n k w.held) held
    pub passed : IsTrue (has_passed times (input_frontier times p w n) held)

  -- a worker may give at the node that it has in hand. All that it gives, and all that it then
  -- holds, is beyond the times that it held there. The node law and the load rule hold after it.
  -- Each place is sent exactly its share, compared by the total of every function over the updates,
  -- so a share may be sent in several bundles. No bundle is empty. Each stamp is beyond the times
  -- that were held, and each bundle's updates are beyond its stamp
  pub record IsGive (w : State T) (g : Emission T) (ts : List T) (sent : List (Bundle T)) : Type 0 where
    pub worker : g.worker < p.workers
    pub in_hand : w.hand g.worker ≡ Some g.node
    pub onward : IsTrue (all_beyond times (held_at g.node g.worker w.held) (update_times g.updates ++ ts))
    pub law : NodeLaw times p (give_state w g ts sent) g.node g.worker
    pub load : LoadRule times p (give_state w g ts sent) g.node g.worker
    pub whole : (site : Site) (f : Update T → ℤ)
        → total_by f (updates_at site sent) ≡ total_by f (share p site g)
    pub filled : IsTrue (are_filled sent)
    pub stamped : IsTrue (are_stamped times (held_at g.node g.worker w.held) sent)

  -- the event is allowed in this state
  abbrev pub IsAllowed : State T → Event T → Type 0
  IsAllowed w (Feed client f) = IsFeed w client f
  IsAllowed w (Advance client i ts) = IsAdvance w client i ts
  IsAllowed w (Allow client v ts) = IsAllow w client v ts
  IsAllowed w (Look actor) = ⊤
  IsAllowed w (Take number bundle) = IsTake w number bundle
  IsAllowed w (TakeHeld k n) = IsTakeHeld w k n
  IsAllowed w (Give g ts sent) = IsGive w g ts sent

-- the dataflow after a history that began with this one. No event changes it
abbrev pub dataflow_after : {T : Type 0} → Dataflow → List (Event T) → Dataflow
dataflow_after opened h = opened

module _ {T : Type 0} (times : Times T) (opened : Dataflow) where
  -- the state before the first event: nothing has come, and each input's frontier and each view's
  -- since is the least time
  abbrev pub initial_state : State T
  initial_state = record {
    fed = [];
    in_flight = [];
    received = [];
    emitted = [];
    held = [];
    open_times = flat_map (λ i. open_entries i (times.least ∷ [])) (numbers_where is_input opened.nodes);
    hand = λ _. None;
    since = λ _. times.least ∷ [];
    observed = [];
  }

  -- the state after a history
  abbrev pub state_after : List (Event T) → State T
  state_after [] = initial_state
  state_after (e ∷ h) = next_state times (dataflow_after opened h) (state_after h) e

  -- the history is legal: each event was allowed in the state before it
  abbrev pub IsLegal : List (Event T) → Type 0
  IsLegal [] = ⊤
  IsLegal (e ∷ h) = IsAllowed times (dataflow_after opened h) (state_after h) e × IsLegal h

  -- the frontiers of a node after a history
  abbrev pub frontier_after : List (Event T) → ℕ → List T
  frontier_after h n = frontier times (dataflow_after opened h) (state_after h) n

  abbrev pub input_frontier_after : List (Event T) → ℕ → List T
  input_frontier_after h n = input_frontier times (dataflow_after opened h) (state_after h) n

  abbrev pub port_frontier_after : List (Event T) → ℕ → ℕ → List T
  port_frontier_after h n port =
      port_frontier times (dataflow_after opened h) (state_after h) n port

  -- what was given at a node, on all workers, after a history
  abbrev pub emitted_after : List (Event T) → ℕ → List (Update T)
  emitted_after h n = emitted_at n (state_after h).emitted
