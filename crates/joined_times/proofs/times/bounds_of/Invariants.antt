use Rattle.std.proofs.Common.{◌∷◌, take}
use Rattle.joined_times.specs.Additions.{AreBetween}
use Rattle.joined_times.proofs.times.bounds_of.Given as goal

-- the times so far lie between the bounds
abbrev pub invariant-loop-t : goal.invariant-loop-t
invariant-loop-t g l = AreBetween g.T.PartialOrder.times l.bounds.meet l.bounds.join (l.fn.first ∷ take l.t-index l.rest)
