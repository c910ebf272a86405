use Rattle.std.proofs.Common.{◌≡◌, take}
use Rattle.batch.specs.Changes.{with_row}
use Rattle.batch.proofs.changes.spread.Given as goal

-- the changes so far are plain updates
abbrev pub invariant-loop-change : goal.invariant-loop-change
invariant-loop-change g l = l.updates.items ≡ with_row l.row (take l.change-index l.changes)
