use Rattle.std.proofs.Common.{◌≡◌, List, ℤ, ◌+ℤ◌, take}
use Rattle.update.specs.Bags.{count_of}
use Rattle.update.specs.Updates.{as_of}
use Rattle.oracle.proofs.listing.put_listed.Given as goal

-- the updates so far that are at or before t have been subtracted
abbrev pub invariant-loop-update : goal.invariant-loop-update
invariant-loop-update g l = (r : List ℤ) → count_of l.entries r +ℤ count_of (as_of g.T.PartialOrder.times l.t (take l.update-index l.listed)) r ≡ count_of l.initial.entries r
