use Rattle.std.proofs.Common.{◌≡◌, ◌++◌, take}
use Rattle.columns.proofs.columns.Columns.push_all.Given as goal

-- the updates so far are appended
abbrev pub invariant-loop-update : goal.invariant-loop-update
invariant-loop-update g l = l.self ≡ l.fn.self ++ take l.update-index l.more
