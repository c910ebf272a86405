use Rattle.std.proofs.Common.{◌≡◌, ◌++◌, map, take}
use Rattle.std.specs.List.{filter}
use Rattle.plan.specs.Operators.{joined_entry}
use Rattle.plan.specs.Reductions.{has_key}
use Rattle.update.specs.Bags.{entry_of}
use Rattle.oracle.proofs.join.put_pairs.Given as goal

-- the pairs with the rows so far
abbrev pub invariant-loop-j : goal.invariant-loop-j
invariant-loop-j l = l.entries ≡ l.initial.entries ++ map (joined_entry l.k (entry_of l.row l.count)) (filter (has_key l.k (take l.k l.row)) (take l.j l.right))
