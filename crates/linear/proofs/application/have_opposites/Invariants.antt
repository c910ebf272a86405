use Rattle.std.proofs.Common.{take, w64, FitsSigned}
use Rattle.std.specs.Prelude.{neg_ℤ}
use Rattle.std.specs.List.{All}
use Rattle.linear.proofs.application.have_opposites.Given as goal

-- the opposites of the updates so far are 64-bit numbers
abbrev pub invariant-loop-update : goal.invariant-loop-update
invariant-loop-update g l = All (λ u. FitsSigned w64 (neg_ℤ u.diff)) (take l.update-index l.updates)
