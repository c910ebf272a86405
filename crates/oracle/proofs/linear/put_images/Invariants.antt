use Rattle.std.proofs.Common.{◌≡◌, ◌++◌, map, take}
use Rattle.plan.specs.Operators.{mapped_entry}
use Rattle.oracle.proofs.linear.put_images.Given as goal

-- the entries so far
abbrev pub invariant-loop-i : goal.invariant-loop-i
invariant-loop-i l = l.entries ≡ l.initial.entries ++ map (mapped_entry l.items) (take l.i l.bag)
