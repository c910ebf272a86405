-- The input frontier that a worker's newest take at a node found. So one may speak of it after the
-- take: at a give it is how far the node's input had come when the worker took what it gives.
use Rattle.std.specs.Prelude.{ℕ, eqb, List, Option, IfSome, IsTrue, slice_get}
use Rattle.std.specs.List.{filter}
use Rattle.lattice.specs.Times.{Times}
use Rattle.lattice.specs.Frontiers.{all_beyond}
use Rattle.histories.specs.Histories.Actors.{observed_by}
use Rattle.histories.specs.Histories.States.{State, ObservedFrontier, held_at}

-- what the worker's newest take at a node recorded; none if it has taken nothing there
abbrev pub newest_observed : {T : Type 0} → ℕ → ℕ → List (ObservedFrontier T) → Option (ObservedFrontier T)
newest_observed n k observed = slice_get (filter (λ l. eqb l.node n) (observed_by k observed)) 0

module _ {T : Type 0} (times : Times T) where
  -- each of the times is beyond the input frontier that the worker's newest take at the node found
  abbrev pub AreBeyondNewest : ℕ → ℕ → List (ObservedFrontier T) → List T → Type 0
  AreBeyondNewest n k observed ts =
      IfSome (newest_observed n k observed) (λ l. IsTrue (all_beyond times l.frontier ts))

  -- so is all that the worker holds at the node
  abbrev pub HoldsBeyondNewest : State T → ℕ → ℕ → Type 0
  HoldsBeyondNewest w n k = AreBeyondNewest n k w.observed (held_at n k w.held)
