use Rattle.std.proofs.Common.{◌≡◌, ◌++◌, map, take}
use Rattle.oracle.specs.Listing.{at_time}
use Rattle.oracle.proofs.listing.push_at.Given as goal

-- the changes so far
abbrev pub invariant-loop-i : goal.invariant-loop-i
invariant-loop-i g l = l.listed.items ≡ l.initial.listed.items ++ map (at_time l.t) (take l.i l.bag)
