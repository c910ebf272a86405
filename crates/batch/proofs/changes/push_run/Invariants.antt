use Rattle.std.proofs.Common.{◌≡◌, ◌+◌, ◌++◌, take}
use Rattle.batch.specs.Changes.{with_row}
use Rattle.batch.proofs.changes.push_run.Given as goal

-- the first change and those of the rest so far stand behind the updates that were there
abbrev pub invariant-loop-change : goal.invariant-loop-change
invariant-loop-change g l = l.columns ≡ l.fn.columns ++ with_row l.row (take (l.change-index + 1) l.changes)
