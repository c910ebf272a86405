use Rattle.std.proofs.Common.{◌≡◌}
use Rattle.reduce.proofs.visits.fold_all.Given as goal

abbrev pub invariant-loop-place : goal.invariant-loop-place
invariant-loop-place g l = l.histories.items ≡ l.fn.histories.items
