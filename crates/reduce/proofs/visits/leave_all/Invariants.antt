use Rattle.std.proofs.Common.{◌≡◌, length}
use Rattle.std.specs.Vec.Iter.{into_iter_items, into_iter_len}
use Rattle.reduce.specs.Visits.{AreWithin, all_left}
use Rattle.reduce.proofs.visits.leave_all.Given as goal

-- the times that are left at the changes so far are in place
abbrev pub invariant-loop-change : goal.invariant-loop-change
invariant-loop-change g l = record {
  left : into_iter_len l.change-iterator ≡ length (into_iter_items l.change-iterator);
  within : AreWithin (length l.histories.items) (into_iter_items l.change-iterator);
  put : all_left (into_iter_items l.change-iterator) l.histories.items ≡ all_left l.fn.changes.items l.fn.histories.items;
}
