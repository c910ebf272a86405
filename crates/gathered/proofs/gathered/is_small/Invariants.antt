use Rattle.std.proofs.Common.{◌≡◌, ◌+◌, ◌^◌, drop}
use Rattle.update.proofs.ConsolidatedLemmas.{summed_size}
use Rattle.gathered.proofs.gathered.is_small.Given as goal

-- what is left is as much as the updates so far leave
abbrev pub invariant-loop-update : goal.invariant-loop-update
invariant-loop-update g l = summed_size l.updates + (l.room + 1) ≡ 2 ^ 63 + summed_size (drop l.update-index l.updates)
