use Rattle.std.proofs.Common.{◌≡◌, ◌++◌, map, take, drop, w64, FitsSigned}
use Rattle.std.specs.Prelude.{neg_ℤ}
use Rattle.std.specs.List.{All}
use Rattle.linear.specs.Applied.{negated_update}
use Rattle.linear.proofs.application.negate_diffs.Given as goal

-- the updates so far are negated, none of them overflowed, and the others are unchanged
abbrev pub invariant-loop-update : goal.invariant-loop-update
invariant-loop-update g l = record {
  negated : l.updates ≡ map negated_update (take l.update-index l.initial.updates) ++ drop l.update-index l.initial.updates;
  fits : All (λ u. FitsSigned w64 (neg_ℤ u.diff)) (take l.update-index l.initial.updates);
}
