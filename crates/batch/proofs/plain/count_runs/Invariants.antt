use Rattle.std.proofs.Common.{◌≡◌, ◌≤◌, length, take}
use Rattle.columns.specs.Runs.{row_starts}
use Rattle.batch.proofs.plain.count_runs.Given as goal

-- the runs of the updates so far are counted
abbrev pub invariant-loop-i : goal.invariant-loop-i
invariant-loop-i g l = record {
  counted : l.runs ≡ length (row_starts (take l.i l.updates));
  few : l.runs ≤ l.i;
}
