-- The bound of a node: how large its output can become. It follows from the plan and the changes of
-- the inputs alone. If no bound is 2^63 or more, then every count fits in 64 bits, in every
-- intermediate result too.
use Rattle.std.specs.Prelude.{◌≡◌, ℕ, ◌+◌, ◌*◌, ◌^◌, ◌<◌, ◌≤◌, List, [], length, slice_get}
use Rattle.std.specs.declared.cmp.Ordering.{Ordering}
use Rattle.update.specs.Updates.{size}
use Rattle.update.specs.declared.change.Update.{Update}
use Rattle.plan.specs.Nodes.{node_at, sources}
use Rattle.plan.specs.Upward.{found}
use Rattle.plan.specs.Queries.{source_value}
use Rattle.plan.specs.Changes.{AreDifferences}
use Rattle.plan.specs.declared.kind.Kind.{Kind}
use Rattle.plan.specs.declared.node.Node.{Node}
use Rattle.plan.specs.declared.node.Node.TheVariants.{Concat, Join, Reduce}
use Rattle.lattice.specs.Times.{Times}

-- the bound of a node, from the bounds at its ports; a reduction has a bound of its own
abbrev pub output_bound : Node → ℕ → (ℕ → ℕ) → ℕ
output_bound (Concat left right) own bounds = bounds 0 + bounds 1
output_bound (Join left right) own bounds = bounds 0 * bounds 1
output_bound (Reduce kind source) own bounds = own
output_bound other own bounds = bounds 0

-- the bound of node n, given the own bound of each reduction and the size of each input
unfoldable pub bound_by : List Node → (ℕ → ℕ) → (ℕ → ℕ) → ℕ → ℕ
bound_by p own inputs n =
    found 0 (λ m node bounds. output_bound node (own m)
    (λ port. source_value (inputs m) bounds (slice_get (sources node) port))) p n

module _ {T : Type 0} (times : Times T) (cmp : T → T → Ordering) where
  -- the own bound of each reduction is the size of its differences over all changes
  abbrev pub AreOwn : List Node → (ℕ → List (Update T)) → (ℕ → ℕ) → Type 0
  AreOwn p changes own = (n source : ℕ) (kind : Kind) → node_at p n ≡ Reduce kind source
      → (us : List (Update T)) × AreDifferences times cmp p changes [] n us × (own n ≡ size us)

  -- w is the bound of node n over all changes
  abbrev pub IsBound : List Node → (ℕ → List (Update T)) → ℕ → ℕ → Type 0
  IsBound p changes n w = (own : ℕ → ℕ) × AreOwn p changes own × (w ≡ bound_by p own (λ input. size (changes input)) n)

  -- some node has a bound of 2^63 or more, so a count may be no 64-bit number
  abbrev pub HasLargeBound : List Node → (ℕ → List (Update T)) → Type 0
  HasLargeBound p changes = (n : ℕ) × (bound : ℕ) × (n < length p) × IsBound p changes n bound × (2 ^ 63 ≤ bound)
