use Rattle.std.proofs.Common.{take}
use Rattle.progress.specs.Kept.{HaveChangedAt, IsInserted, IsSpared}
use Rattle.progress.proofs.table.insert_in_each.Given as goal

-- the nodes so far have changed
abbrev pub invariant-loop-number : goal.invariant-loop-number
invariant-loop-number g l = record {
  inserted : HaveChangedAt (IsInserted g.T.PartialOrder.times l.graph l.place l.t) (take l.number l.asked) l.fn.kept.items l.kept.items;
  spared : HaveChangedAt (IsSpared l.graph l.place) (take l.number l.asked) l.fn.kept.items l.kept.items;
}
