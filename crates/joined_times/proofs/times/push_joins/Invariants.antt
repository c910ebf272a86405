use Rattle.std.proofs.Common.{take}
use Rattle.joined_times.specs.Joined.{Member}
use Rattle.joined_times.specs.Additions.{Appends, joins_with}
use Rattle.joined_times.proofs.times.push_joins.Given as goal

-- the time, and those so far joined with it, are appended
abbrev pub invariant-loop-s : goal.invariant-loop-s
invariant-loop-s g l =
    Appends l.fn.fresh.items l.fresh.items (λ r. Member r (joins_with g.T.PartialOrder.times l.t (take l.s-index l.near)))
