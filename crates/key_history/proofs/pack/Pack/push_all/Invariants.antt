use Rattle.std.proofs.Common.{◌≡◌, ◌++◌}
use Rattle.std.specs.List.{slice_range}
use Rattle.key_history.proofs.pack.Pack.push_all.Given as goal

-- the updates so far are appended
abbrev pub invariant-loop-i : goal.invariant-loop-i
invariant-loop-i g l = l.self ≡ l.fn.self ++ slice_range l.out l.start l.i
