use Rattle.std.proofs.Common.{take}
use Rattle.progress.specs.Kept.{HaveChangedAt, IsMarked}
use Rattle.progress.proofs.table.mark_each.Given as goal

-- the nodes so far have changed
abbrev pub invariant-loop-number : goal.invariant-loop-number
invariant-loop-number g l = HaveChangedAt (IsMarked l.graph l.place) (take l.number l.asked) l.fn.kept.items l.kept.items
