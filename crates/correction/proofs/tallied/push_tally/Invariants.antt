use Rattle.std.proofs.Common.{◌≡◌, ◌++◌, take}
use Rattle.correction.proofs.tallied.push_tally.Given as goal

-- the entries so far
abbrev pub invariant-loop-i : goal.invariant-loop-i
invariant-loop-i l = l.entries ≡ l.initial.entries ++ take l.i l.base
