use Rattle.std.proofs.Common.{IsTrue, length, take, nat_le}
use Rattle.std.specs.List.{list_all}
use Rattle.join_trials.proofs.join_tests.are_short.Given as goal

abbrev pub invariant-loop-i : goal.invariant-loop-i
invariant-loop-i g l = IsTrue (list_all (λ u. nat_le (length u.row) 4) (take l.i (g.B.BatchReader.content l.batch)))
