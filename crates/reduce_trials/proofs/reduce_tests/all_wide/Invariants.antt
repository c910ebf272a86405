use Rattle.std.proofs.Common.{IsTrue, take}
use Rattle.reduce.specs.Duties.{are_wide}
use Rattle.reduce_trials.proofs.reduce_tests.all_wide.Given as goal

abbrev pub invariant-loop-i : goal.invariant-loop-i
invariant-loop-i g l = IsTrue (are_wide l.key (take l.i (g.B.BatchReader.content l.batch)))
