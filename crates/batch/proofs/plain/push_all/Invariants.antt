use Rattle.std.proofs.Common.{◌≡◌, ◌++◌, take}
use Rattle.batch.proofs.plain.push_all.Given as goal

-- the updates so far stand behind those that were there
abbrev pub invariant-loop-update : goal.invariant-loop-update
invariant-loop-update g l = l.columns ≡ l.fn.columns ++ take l.update-index l.updates
