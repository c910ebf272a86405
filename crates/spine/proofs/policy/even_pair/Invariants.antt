use Rattle.std.proofs.Common.{◌≡◌, ◌+◌, ℕ, suc, ◌≤◌, ◌⊎◌, length, slice_get, Some, false, IsTrue}
use Rattle.batch.specs.Descriptions.{BatchState}
use Rattle.spine.specs.Spines.{AreSteep, is_barred}
use Rattle.spine.proofs.policy.even_pair.Given as goal

-- none of the newer neighbours may become one, or they are steep
abbrev pub invariant-loop-newer : goal.invariant-loop-newer
invariant-loop-newer g l = (k : ℕ) (a b : BatchState g.row.T.Denot) → length l.batches ≤ k + l.newer → slice_get l.batches k ≡ Some a → slice_get l.batches (suc k) ≡ Some b
    → AreSteep a b ⊎ IsTrue (is_barred g.T.PartialOrder.times l.holds l.batches false k)
