use Rattle.std.proofs.Common.{◌≡◌, ◌++◌, take}
use Rattle.oracle.proofs.linear.put_all.Given as goal

-- the entries so far
abbrev pub invariant-loop-i : goal.invariant-loop-i
invariant-loop-i l = l.entries ≡ l.initial.entries ++ take l.i l.bag
