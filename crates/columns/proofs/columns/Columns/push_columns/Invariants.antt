use Rattle.std.proofs.Common.{◌≡◌, ◌++◌, take}
use Rattle.columns.proofs.columns.Columns.push_columns.Given as goal

-- the updates so far are appended
abbrev pub invariant-loop-i : goal.invariant-loop-i
invariant-loop-i g l = l.self ≡ l.fn.self ++ take l.i l.more
