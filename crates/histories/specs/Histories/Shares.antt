-- Which updates go where. Into an arrange node, an update goes to the worker of its key. Along
-- every other edge, it stays on its worker. A change comes to its input on the worker of its whole
-- row.
use Rattle.std.specs.Prelude.{◌≡◌, ℕ, Bool, not, ◌&&◌, eqb, if◌then◌else◌, List, [], ◌∷◌, length, take, Option, Some, None}
use Rattle.std.specs.List.{filter, list_all}
use Rattle.lattice.specs.Times.{Times}
use Rattle.lattice.specs.Frontiers.{all_beyond}
use Rattle.update.specs.declared.change.Update.{Update}
use Rattle.plan.specs.Nodes.{arranged_by}
use Rattle.histories.specs.declared.event.Site.{Site}
use Rattle.histories.specs.declared.event.Fed.{Fed}
use Rattle.histories.specs.declared.event.Emission.{Emission}
use Rattle.histories.specs.declared.event.Bundle.{Bundle}
use Rattle.histories.specs.Histories.Dataflows.{Dataflow, node_of, source_of, route}
use Rattle.histories.specs.Histories.States.{place, same_place, update_times, updates_at}

-- the place where a change comes to its input
abbrev pub home : {T : Type 0} → Dataflow → Fed T → Site
home p f = place f.input 0 (route p f.update.row)

module _ {T : Type 0} (p : Dataflow) where
  -- the part of a giver's updates that a worker gets along an edge: by a key of this many columns,
  -- or without a key all of them, on the giver's own worker
  abbrev pub part : Option ℕ → ℕ → ℕ → List (Update T) → List (Update T)
  part None giver worker us = if eqb giver worker then us else []
  part (Some columns) giver worker us = filter (λ u. eqb (route p (take columns u.row)) worker) us

  -- the part of an emission that a worker gets along an edge from a source
  abbrev pub share_from : Option ℕ → Option ℕ → ℕ → Emission T → List (Update T)
  share_from None columns worker g = []
  share_from (Some source) columns worker g =
      if eqb g.node source then part columns g.worker worker g.updates else []

  -- the part of an emission that goes to a place
  abbrev pub share : Site → Emission T → List (Update T)
  share site g =
      share_from (source_of p site.node site.port) (arranged_by (node_of p site.node)) site.worker g

  -- the part of a change that goes to a place: all of it at its home, nothing elsewhere
  abbrev pub share_fed : Site → Fed T → List (Update T)
  share_fed site f = if same_place (home p f) site then f.update ∷ [] else []

  -- each place is sent exactly its share of what was given
  abbrev pub AreShares : Emission T → List (Bundle T) → Type 0
  AreShares g sent = (site : Site) → updates_at site sent ≡ share site g

-- no bundle is empty
abbrev pub are_filled : {T : Type 0} → List (Bundle T) → Bool
are_filled sent = list_all (λ b. not (eqb (length b.updates) 0)) sent

-- each stamp is beyond these times, and each bundle's updates are beyond its stamp
abbrev pub are_stamped : {T : Type 0} → Times T → List T → List (Bundle T) → Bool
are_stamped times held sent =
    list_all (λ b. all_beyond times held b.stamp && all_beyond times b.stamp (update_times b.updates)) sent
