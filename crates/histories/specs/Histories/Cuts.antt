-- The bundles that `Routing::cut` makes of what a worker gave: along each edge from its node, one
-- bundle for each worker's share that is not empty. A worker may cut otherwise; a give only has to
-- send each place its share.
use Rattle.std.specs.Prelude.{ℕ, eqb, List, [], ◌∷◌, take}
use Rattle.std.specs.List.{filter, flat_map}
use Rattle.row.specs.Routing.{route_of}
use Rattle.update.specs.declared.change.Update.{Update}
use Rattle.plan.specs.Ancestors.{numbers_below}
use Rattle.plan.specs.Edges.{edges_from}
use Rattle.plan.specs.declared.edges.Edge.{Edge}
use Rattle.histories.specs.declared.event.Site.{Site}
use Rattle.histories.specs.declared.event.Bundle.{Bundle}
use Rattle.histories.specs.declared.event.Emission.{Emission}
use Rattle.histories.specs.Histories.Dataflows.{Dataflow}
use Rattle.histories.specs.Histories.States.{place}
use Rattle.histories.specs.Histories.Outstanding.{stamp}
use Rattle.histories.specs.Histories.Shares.{share}
use Rattle.lattice.specs.Times.{Times}

-- the updates that worker k gets if they are routed by a key of this many columns
abbrev pub part_by_key : {T : Type 0} → ℕ → ℕ → List (Update T) → ℕ → List (Update T)
part_by_key columns workers us k = filter (λ u. eqb (route_of (take columns u.row) workers) k) us

module _ {T : Type 0} (times : Times T) where
  -- the bundle of these updates at a place, with the least of their times as its stamp; no bundle
  -- if there are no updates
  abbrev pub bundled : Site → List (Update T) → List (Bundle T)
  bundled site [] = []
  bundled site (u ∷ us) =
      record { place = site; updates = u ∷ us; stamp = stamp times (u ∷ us) } ∷ []

  -- the bundles that go along an edge, in the order of the workers, from what each worker gets
  abbrev pub bundles_along : Edge → ℕ → (ℕ → List (Update T)) → List (Bundle T)
  bundles_along edge workers gets =
      flat_map (λ k. bundled (place edge.reader edge.port k) (gets k)) (numbers_below workers)

module _ {T : Type 0} (times : Times T) (p : Dataflow) (g : Emission T) where
  -- the bundles along an edge, from each worker's share
  abbrev pub cut_along : Edge → List (Bundle T)
  cut_along edge =
      bundles_along times edge p.workers (λ k. share p (place edge.reader edge.port k) g)

  -- the bundles along all edges from the node
  abbrev pub cut : List (Bundle T)
  cut = flat_map cut_along (edges_from p.nodes g.node)
