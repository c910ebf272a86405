use Rattle.std.proofs.Common.{◌≡◌, ◌++◌}
use Rattle.std.specs.Prelude.{slice_range}
use Rattle.columns.specs.Runs.{run_place}
use Rattle.batch.proofs.copies.copy_runs.Given as goal

-- the updates of the runs so far stand behind those that were there
abbrev pub invariant-loop-run : goal.invariant-loop-run
invariant-loop-run g l = l.list.items ≡ l.fn.list.items ++ slice_range (g.B.BatchReader.content l.batch) (run_place (g.B.BatchReader.content l.batch) l.fn.runs.start) (run_place (g.B.BatchReader.content l.batch) l.run)
