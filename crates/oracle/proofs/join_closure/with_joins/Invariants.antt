use Rattle.std.proofs.Common.{take}
use Rattle.std.specs.List.{All, Contains}
use Rattle.std.specs.List.Sorted.{IsStrictlySortedBy}
use Rattle.oracle.specs.JoinClosures.{HavePassed, IsClosed}
use Rattle.oracle.proofs.join_closure.with_joins.Given as goal

-- the closure has the times so far and their passed joins
abbrev pub invariant-loop-t : goal.invariant-loop-t
invariant-loop-t g l = record {
  ascending : IsStrictlySortedBy g.T.Ord.cmp l.join_closure.items;
  closed : IsClosed g.T.PartialOrder.times l.frontier l.join_closure.items;
  passed : HavePassed g.T.PartialOrder.times l.frontier l.join_closure.items;
  kept : All (Contains l.join_closure.items) (take l.t-index l.times);
}
