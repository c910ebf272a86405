use Rattle.std.proofs.Common.{ℕ, suc, ◌<◌, false, IsTrue}
use Rattle.spine.specs.Spines.{is_barred}
use Rattle.spine.proofs.policy.are_all_shut.Given as goal

-- no neighbours so far may become one
abbrev pub invariant-loop-next : goal.invariant-loop-next
invariant-loop-next g l = (k : ℕ) → suc k < l.next → IsTrue (is_barred g.T.PartialOrder.times l.holds l.batches false k)
