use Rattle.std.proofs.Common.{IsTrue, length, take, nat_le}
use Rattle.std.specs.List.{list_all}
use Rattle.trace.specs.Readings.{all_content}
use Rattle.join_trials.proofs.join_tests.all_short.Given as goal

abbrev pub invariant-loop-batch : goal.invariant-loop-batch
invariant-loop-batch g l = IsTrue (list_all (λ u. nat_le (length u.row) 4) (all_content g.B.BatchReader.content (take l.batch-index l.batches)))
