use Rattle.std.proofs.Common.{take, IsTrue}
use Rattle.std.specs.List.{list_all}
use Rattle.batch.proofs.lent.known_list.Given as goal

-- the times so far are at or after the least one
abbrev pub invariant-loop-i : goal.invariant-loop-i
invariant-loop-i g l = IsTrue (list_all (λ u. g.T.PartialOrder.times.below g.T.PartialOrder.times.least u.time) (take l.i l.list))
