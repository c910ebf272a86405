use Rattle.std.proofs.Common.{◌≡◌, ℕ, suc, ◌<◌, None, false, IfSome, IsTrue}
use Rattle.spine.specs.Spines.{MayMerge, is_barred}
use Rattle.spine.proofs.policy.cheapest_pair.Given as goal

-- the best so far may become one, and if there is none then none so far may
abbrev pub invariant-loop-next : goal.invariant-loop-next
invariant-loop-next g l =
    record {
      some : IfSome l.best (λ i. MayMerge g.T.PartialOrder.times l.holds l.batches false i);
      none : l.best ≡ None → (k : ℕ) → suc k < l.next → IsTrue (is_barred g.T.PartialOrder.times l.holds l.batches false k);
    }
