use Rattle.std.proofs.Common.{◌≤◌, ◌-◌, drop, length}
use Rattle.reduce.proofs.CommitLemmas.{IsGiving}
use Rattle.reduce.proofs.visits.give_all.Given as goal

-- what is given at the changes so far is appended
abbrev pub invariant-loop-i : goal.invariant-loop-i
invariant-loop-i g l = record {
  within : l.left ≤ length l.out;
  giving : IsGiving l.changes l.out l.fn.histories.items l.i (drop (length l.out - l.left) l.out) l.histories.items;
}
