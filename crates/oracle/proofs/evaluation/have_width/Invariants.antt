use Rattle.std.proofs.Common.{◌≡◌, true, length, take}
use Rattle.std.specs.Prelude.{eqb}
use Rattle.std.specs.List.{list_all}
use Rattle.oracle.proofs.evaluation.have_width.Given as goal

-- the rows so far have the width
abbrev pub invariant-loop-update : goal.invariant-loop-update
invariant-loop-update g l = list_all (λ u. eqb (length u.row) l.width) (take l.update-index l.updates) ≡ true
