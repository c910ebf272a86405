use Rattle.std.proofs.Common.{◌≡◌}
use Rattle.spine_trials.proofs.spine_tests.work_by_units.Given as goal

-- the holds stay
abbrev pub invariant-loop-call : goal.invariant-loop-call
invariant-loop-call l = l.spine.holds ≡ l.fn.spine.holds
