-- What a worker owes at a node. The node law: at every time that is not beyond the times that it
-- still holds there, what it gave is what the node makes of what it received. This makes views
-- right. The load rule: it gives no more than the node can make of what it received, and a
-- reduction gives only what is final. This keeps every number within its node's bound.
use Rattle.std.specs.Prelude.{◌≡◌, ℕ, ◌≤◌, Bool, true, false, ◌&&◌, eqb, List, IsTrue}
use Rattle.std.specs.List.{list_any, list_all}
use Rattle.update.specs.Bags.{Alike}
use Rattle.update.specs.Updates.{as_of, size, AreApart}
use Rattle.update.specs.declared.change.Update.{Update}
use Rattle.plan.specs.Changes.{has_passed}
use Rattle.plan.specs.Bounds.{output_bound}
use Rattle.plan.specs.Nodes.{is_reduction}
use Rattle.histories.specs.Histories.Dataflows.{Dataflow, node_of, node_output}
use Rattle.histories.specs.Histories.States.{State, ObservedFrontier, place, updates_at, emitted_by, held_at}
use Rattle.lattice.specs.Times.{Times}

-- what a worker received at a port of a node
abbrev pub received_at : {T : Type 0} → State T → ℕ → ℕ → ℕ → List (Update T)
received_at w n k port = updates_at (place n port k) w.received

module _ {T : Type 0} (times : Times T) where
  -- the node law of worker k at node n
  abbrev pub NodeLaw : Dataflow → State T → ℕ → ℕ → Type 0
  NodeLaw p w n k = (t : T) → IsTrue (has_passed times (held_at n k w.held) t)
      → Alike (as_of times t (emitted_by n k w.emitted))
      (node_output p n (λ port. as_of times t (received_at w n k port)))

  -- at some take of the worker at the node, the input frontier had passed the time
  abbrev pub was_passed : ℕ → ℕ → List (ObservedFrontier T) → T → Bool
  was_passed n k observed t =
      list_any (λ l. (eqb l.node n && eqb l.worker k) && has_passed times l.frontier t) observed

  -- what a worker gave at a reduction is final: each row at most once at each time, at times that
  -- the worker no longer holds, and that the input frontier had passed at some take
  pub record IsFinal (w : State T) (n k : ℕ) : Type 0 where
    pub apart : AreApart times (emitted_by n k w.emitted)
    pub held : IsTrue (list_all (λ u. has_passed times (held_at n k w.held) u.time) (emitted_by n k w.emitted))
    pub observed : IsTrue (list_all (λ u. was_passed n k w.observed u.time) (emitted_by n k w.emitted))

  -- the absolute diffs given add up to no more than those received: at a concat to no more than the
  -- sum over both ports, at a join to no more than their product
  abbrev pub IsWithinLoad : Dataflow → State T → ℕ → ℕ → Type 0
  IsWithinLoad p w n k = size (emitted_by n k w.emitted)
      ≤ output_bound (node_of p n) 0 (λ port. size (received_at w n k port))

  -- the load rule of worker k at node n
  pub record LoadRule (p : Dataflow) (w : State T) (n k : ℕ) : Type 0 where
    pub within : is_reduction (node_of p n) ≡ false → IsWithinLoad p w n k
    pub final : is_reduction (node_of p n) ≡ true → IsFinal w n k
