use Rattle.std.proofs.Common.{◌≡◌, ◌++◌, take}
use Rattle.std.specs.List.{filter}
use Rattle.row.specs.Filters.{passes}
use Rattle.oracle.proofs.linear.put_passing.Given as goal

-- the entries so far
abbrev pub invariant-loop-i : goal.invariant-loop-i
invariant-loop-i l = l.entries ≡ l.initial.entries ++ filter (λ e. passes l.test e.row) (take l.i l.bag)
