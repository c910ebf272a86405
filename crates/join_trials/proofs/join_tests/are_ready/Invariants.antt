use Rattle.std.proofs.Common.{IsTrue, ◌&&◌, length, take, nat_le}
use Rattle.std.specs.List.{list_all}
use Rattle.lattice.specs.Frontiers.{is_beyond}
use Rattle.join.specs.Pairs.{is_wide}
use Rattle.join_trials.proofs.join_tests.are_ready.Given as goal

abbrev pub invariant-loop-i : goal.invariant-loop-i
invariant-loop-i g l =
    IsTrue (list_all (λ u. is_beyond g.B.Time.PartialOrder.times l.since u.time && (is_wide l.k u.row && nat_le (length u.row) 4)) (take l.i (g.B.BatchReader.content l.batch)))
