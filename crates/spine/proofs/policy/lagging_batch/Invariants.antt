use Rattle.std.proofs.Common.{◌≡◌, take}
use Rattle.std.specs.List.{AllByRecursion}
use Rattle.spine.proofs.policy.lagging_batch.Given as goal

-- none so far lags
abbrev pub invariant-loop-i : goal.invariant-loop-i
invariant-loop-i g l = AllByRecursion (λ b. b.description.since ≡ l.since) (take l.i l.batches)
