use Rattle.std.proofs.Common.{◌≡◌, ◌++◌}
use Rattle.std.specs.Prelude.{slice_range}
use Rattle.batch.proofs.copies.copy_run.Given as goal

-- the updates of the part so far stand behind those that were there
abbrev pub invariant-loop-i : goal.invariant-loop-i
invariant-loop-i g l = l.list.items ≡ l.fn.list.items ++ slice_range (g.B.BatchReader.content l.batch) l.fn.part.start l.i
