use Rattle.std.proofs.Common.{◌≡◌, ◌++◌, map, take}
use Rattle.plan.specs.Operators.{negated_entry}
use Rattle.oracle.proofs.linear.put_opposites.Given as goal

-- the entries so far
abbrev pub invariant-loop-i : goal.invariant-loop-i
invariant-loop-i l = l.entries ≡ l.initial.entries ++ map negated_entry (take l.i l.bag)
