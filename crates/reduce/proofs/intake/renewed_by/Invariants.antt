use Rattle.std.proofs.Common.{◌≡◌, ◌≤◌, ◌-◌, length, map, take, drop}
use Rattle.std.specs.List.{AllByRecursion}
use Rattle.columns.specs.Runs.{row_starts, run_place}
use Rattle.reduce.specs.Intake.{AreRenewed, IsPlaced, made_from}
use Rattle.reduce.proofs.RunLemmas.{IsBorder}
use Rattle.reduce.proofs.intake.renewed_by.Given as goal

-- the keys in front of the next run have their new times
abbrev pub invariant-loop-run : goal.invariant-loop-run
invariant-loop-run g l = record {
  within : l.run ≤ length (row_starts (g.B.BatchReader.content l.batch));
  start : l.start ≡ run_place (g.B.BatchReader.content l.batch) l.run;
  border : IsBorder l.k (take l.start (g.B.BatchReader.content l.batch)) (drop l.start (g.B.BatchReader.content l.batch));
  made : AreRenewed g.T.PartialOrder.times g.T.Ord.cmp l.k (take l.start (g.B.BatchReader.content l.batch)) l.histories.items (map (made_from l.histories.items) l.made.items);
  placed : AllByRecursion (IsPlaced l.histories.items) l.made.items;
}

-- each key has a run
abbrev pub decreases-loop-run : goal.decreases-loop-run
decreases-loop-run g l = length (row_starts (g.B.BatchReader.content l.batch)) - l.run
