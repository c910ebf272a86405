use Rattle.std.proofs.Common.{◌≡◌, map, take}
use Rattle.reducer.proofs.tally.rows_in.Given as goal

-- the rows so far
abbrev pub invariant-loop-update : goal.invariant-loop-update
invariant-loop-update g l = l.rows.items ≡ map (λ u. u.row) (take l.update-index l.updates)
