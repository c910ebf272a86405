-- Changes with which a number may be too large.
use Rattle.std.specs.Prelude.{ℕ, ◌^◌, ◌<◌, ◌≤◌, List, length}
use Rattle.std.specs.declared.cmp.Ordering.{Ordering}
use Rattle.update.specs.declared.change.Update.{Update}
use Rattle.plan.specs.Bounds.{IsBound}
use Rattle.plan.specs.declared.node.Node.{Node}
use Rattle.lattice.specs.Times.{Times}

-- with these changes some node has no bound below 2^63
abbrev pub HasNoSmallBound : {T : Type 0} → Times T → (T → T → Ordering) → List Node → (ℕ → List (Update T)) → Type 0
HasNoSmallBound times cmp p changes =
    (n : ℕ) × (n < length p) × ((bound : ℕ) → IsBound times cmp p changes n bound → 2 ^ 63 ≤ bound)
