use Rattle.std.proofs.Common.{◌≡◌, [], map, replicate}
use Rattle.engines.proofs.oracle_engine.no_changes.Given as goal

abbrev pub invariant-loop-input : goal.invariant-loop-input
invariant-loop-input l = map (λ v. v.items) l.lists.items ≡ replicate l._input []
