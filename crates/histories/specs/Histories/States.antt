-- What a history leaves: a record of logs. Each entry names its node, and its port and worker if
-- they matter. So a question about a node or a place is answered by going through a log (after the
-- configurations of Abadi, McSherry, Murray and Rodeheffer, Formal Analysis of a Distributed
-- Algorithm for Tracking Progress, 2013).
use Rattle.std.specs.Prelude.{ℕ, Bool, ◌&&◌, eqb, if◌then◌else◌, List, [], ◌∷◌, map, Option}
use Rattle.std.specs.List.{flat_map}
use Rattle.update.specs.declared.change.Update.{Update}
use Rattle.histories.specs.declared.event.Site.{Site}
use Rattle.histories.specs.declared.event.Bundle.{Bundle}
use Rattle.histories.specs.declared.event.Fed.{Fed}
use Rattle.histories.specs.declared.event.Emission.{Emission}
use Rattle.histories.specs.declared.event.HeldTime.{HeldTime}
use Rattle.histories.specs.declared.event.OpenTime.{OpenTime}

-- the input frontier that a worker found at a node when it took there
pub record ObservedFrontier (T : Type 0) : Type 0 where
  pub node : ℕ
  pub worker : ℕ
  pub frontier : List T

-- the state that a history leaves
pub record State (T : Type 0) : Type 0 where
  -- the changes that clients fed, the newest first
  pub fed : List (Fed T)
  -- the bundles that were sent and not yet taken, the oldest first
  pub in_flight : List (Bundle T)
  -- the bundles that were taken, the newest first
  pub received : List (Bundle T)
  -- what workers gave, the newest first
  pub emitted : List (Emission T)
  -- the times that workers hold at nodes
  pub held : List (HeldTime T)
  -- the elements of the inputs' frontiers
  pub open_times : List (OpenTime T)
  -- by worker, the node of the piece in hand
  pub hand : ℕ → Option ℕ
  -- by view, the frontier beyond which it may be read
  pub since : ℕ → List T
  -- the input frontiers that takes recorded, the newest first
  pub observed : List (ObservedFrontier T)

-- a port of node n on worker k
abbrev pub place : ℕ → ℕ → ℕ → Site
place n port k = record { node = n; port = port; worker = k }

-- the two places are one
abbrev pub same_place : Site → Site → Bool
same_place a b = eqb a.node b.node && (eqb a.port b.port && eqb a.worker b.worker)

module _ {T : Type 0} where
  -- this update as a change of an input
  abbrev pub change_to : ℕ → Update T → Fed T
  change_to i u = record { input = i; update = u }

  -- the times of the updates
  abbrev pub update_times : List (Update T) → List T
  update_times us = map (λ u. u.time) us

  -- the updates of all bundles of a place
  abbrev pub updates_at : Site → List (Bundle T) → List (Update T)
  updates_at site bundles =
      flat_map (λ b. if same_place b.place site then b.updates else []) bundles

  -- the bundles of a place, in their order
  abbrev pub queue : Site → List (Bundle T) → List (Bundle T)
  queue site bundles = flat_map (λ b. if same_place b.place site then b ∷ [] else []) bundles

  -- what a worker gave at a node
  abbrev pub emitted_by : ℕ → ℕ → List (Emission T) → List (Update T)
  emitted_by n k emissions =
      flat_map (λ g. if eqb g.node n && eqb g.worker k then g.updates else []) emissions

  -- what was given at a node, on all workers; at a view it is what was captured
  abbrev pub emitted_at : ℕ → List (Emission T) → List (Update T)
  emitted_at n emissions = flat_map (λ g. if eqb g.node n then g.updates else []) emissions

  -- the changes of an input
  abbrev pub fed_to : ℕ → List (Fed T) → List (Update T)
  fed_to i changes = flat_map (λ f. if eqb f.input i then f.update ∷ [] else []) changes

  -- the times that a worker holds at a node
  abbrev pub held_at : ℕ → ℕ → List (HeldTime T) → List T
  held_at n k held = flat_map (λ m. if eqb m.node n && eqb m.worker k then m.time ∷ [] else []) held

  -- the frontier of an input
  abbrev pub open_at : ℕ → List (OpenTime T) → List T
  open_at i open_times = flat_map (λ o. if eqb o.input i then o.time ∷ [] else []) open_times
