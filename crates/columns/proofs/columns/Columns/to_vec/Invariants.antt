use Rattle.std.proofs.Common.{◌≡◌, take}
use Rattle.columns.proofs.columns.Columns.to_vec.Given as goal

-- copies of the updates so far
abbrev pub invariant-loop-i : goal.invariant-loop-i
invariant-loop-i g l = l.list.items ≡ take l.i l.self
