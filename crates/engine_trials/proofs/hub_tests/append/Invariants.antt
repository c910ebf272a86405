use Rattle.std.proofs.Common.{◌≡◌}
use Rattle.engine_trials.proofs.hub_tests.append.Given as goal

abbrev pub invariant-loop : goal.invariant-loop
invariant-loop g l = l.pass.hub ≡ l.initial.pass.hub
