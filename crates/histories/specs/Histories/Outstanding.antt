-- Frontiers: a node may still give updates at times beyond its frontier. A frontier counts what is
-- outstanding, as `progress` counts it: the bundles in flight, by the stamps that they carry, the
-- times that are held, and the elements of the inputs' frontiers, on every worker (Murray et al.,
-- Naiad, SOSP 2013, section 2.3).
use Rattle.std.specs.Prelude.{ℕ, Bool, not, ◌&&◌, eqb, if◌then◌else◌, List, [], ◌∷◌, ◌++◌, map}
use Rattle.std.specs.List.{flat_map, filter}
use Rattle.lattice.specs.Times.{Times}
use Rattle.lattice.specs.Frontiers.{is_beyond}
use Rattle.update.specs.declared.change.Update.{Update}
use Rattle.progress.specs.declared.place.Place.TheVariants.{Port, Held, Input}
use Rattle.progress.specs.declared.counted.Counted.{Counted}
use Rattle.progress.specs.Tallies
use Rattle.histories.specs.declared.event.Site.{Site}
use Rattle.histories.specs.declared.event.Bundle.{Bundle}
use Rattle.histories.specs.declared.event.HeldTime.{HeldTime}
use Rattle.histories.specs.declared.event.OpenTime.{OpenTime}
use Rattle.histories.specs.Histories.Dataflows.{Dataflow, upstream}
use Rattle.histories.specs.Histories.States.{State, update_times}

module _ {T : Type 0} (times : Times T) where
  -- a frontier with one time added: if the time is not beyond it, the time comes in, and the
  -- elements beyond the time go out
  abbrev pub with_time : List T → T → List T
  with_time front t = if is_beyond times front t then front
      else filter (λ f. not (times.below t f)) front ++ t ∷ []

  -- a frontier with these times added, one by one
  abbrev pub with_times : List T → List T → List T
  with_times front [] = front
  with_times front (t ∷ ts) = with_times (with_time front t) ts

  -- the frontier of the times of updates: the least of them, each once
  unfoldable pub stamp : List (Update T) → List T
  stamp us = with_times [] (update_times us)

-- m is an ancestor of n
abbrev pub strictly_upstream : Dataflow → ℕ → ℕ → Bool
strictly_upstream p n m = upstream p n m && not (eqb m n)

-- the stamps of the bundles at the places that pass a test
abbrev pub stamps : {T : Type 0} → (Site → Bool) → List (Bundle T) → List T
stamps test bundles = flat_map (λ b. if test b.place then b.stamp else []) bundles

-- each element of a bundle's stamp, at the port where the bundle waits, on whichever worker
abbrev pub items_in_flight : {T : Type 0} → List (Bundle T) → List (Counted T)
items_in_flight bundles = flat_map
    (λ b. map (λ t. record { place = Port b.place.node b.place.port; time = t }) b.stamp) bundles

-- each held time, at its node
abbrev pub items_held : {T : Type 0} → List (HeldTime T) → List (Counted T)
items_held held = map (λ m. record { place = Held m.node; time = m.time }) held

-- each element of an input's frontier, at the input
abbrev pub items_open : {T : Type 0} → List (OpenTime T) → List (Counted T)
items_open open_times = map (λ o. record { place = Input o.input; time = o.time }) open_times

-- all that is outstanding in a state
abbrev pub items_of : {T : Type 0} → State T → List (Counted T)
items_of w = items_in_flight w.in_flight ++ (items_held w.held ++ items_open w.open_times)

module _ {T : Type 0} (times : Times T) where
  -- the frontier of a node: the least of what is outstanding at it or above it
  abbrev pub frontier : Dataflow → State T → ℕ → List T
  frontier p w n = Tallies.frontier times p.nodes (items_of w) n

  -- the input frontier of a node, without what is held at the node itself: updates may still come
  -- to the node at times beyond it
  abbrev pub input_frontier : Dataflow → State T → ℕ → List T
  input_frontier p w n = Tallies.input_frontier times p.nodes (items_of w) n

  -- the frontier of one port: what is in flight to it, and what is outstanding at its source or
  -- above
  abbrev pub port_frontier : Dataflow → State T → ℕ → ℕ → List T
  port_frontier p w n port = Tallies.port_frontier times p.nodes (items_of w) n port
