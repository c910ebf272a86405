-- Why a number is too large: a bound is.
use Rattle.std.proofs.Common.{◌≡◌, ℕ, ◌^◌, ◌<◌, ◌≤◌, false, List, length, Some, arith}
use Rattle.std.specs.declared.cmp.Ordering.{Ordering}
use Rattle.lattice.specs.Times.{Times}
use Rattle.lattice.specs.Order.{PartialOrderLaws}
use Rattle.update.specs.Updates.{size}
use Rattle.plan.specs.Bounds.{output_bound}
use Rattle.plan.specs.Nodes.{is_reduction}
use Rattle.plan.proofs.PlanLemmas.{source_smaller, has_source}
use Rattle.histories.specs.declared.event.Event.{Event}
use Rattle.histories.specs.Histories.Dataflows.{Dataflow, IsDataflow, node_of, source_of}
use Rattle.histories.specs.Histories.NodeLaws.{received_at}
use Rattle.histories.specs.Histories.Promises.{changes_in}
use Rattle.histories.specs.Histories.States.{State}
use Rattle.histories.specs.Histories.{state_after, IsLegal}
use Rattle.histories.proofs.HistoryLemmas.BoundLemmas.{takes_lem, loads_lem}
use Rattle.shared_board.specs.Large.{HasNoSmallBound}

module _ {T : Type 0} (times : Times T) (o : PartialOrderLaws times) (cmp : T → T → Ordering) (p : Dataflow) (q : IsDataflow p) (h : List (Event T)) (legal : IsLegal times p h) where
  abbrev w : State T
  w = state_after times p h

  -- a worker received more at a port than 64-bit numbers can say
  pub large_received : (n port source k : ℕ) → k < p.workers → source_of p n port ≡ Some source → 2 ^ 63 ≤ size (received_at w n k port) → HasNoSmallBound times cmp p.nodes (changes_in w)
  large_received n port source k l e large =
      let less = source_smaller p.nodes q.plan n port source e in
      let within = has_source p.nodes n port source e in (
        source,
        omega (arith, less, within),
        λ bound is. let small = takes_lem times o p q cmp h legal n port source e k l bound is in omega (arith, small, large),
      )

  -- what a node that is no reduction may make of what a worker received is more than 64-bit numbers
  -- can say
  pub large_load : (n k : ℕ) → n < length p.nodes → k < p.workers → is_reduction (node_of p n) ≡ false → 2 ^ 63 ≤ output_bound (node_of p n) 0 (λ port. size (received_at w n k port)) → HasNoSmallBound times cmp p.nodes (changes_in w)
  large_load n k within l e large = (
    n,
    within,
    λ bound is. let small = loads_lem times o p q cmp h legal n e k l bound is in omega (arith, small, large),
  )
