use Rattle.std.proofs.Common.{◌≡◌, ◌++◌, take}
use Rattle.update.specs.Updates.{as_of}
use Rattle.correction.proofs.tallied.push_near.Given as goal

-- the sum so far
abbrev pub invariant-loop-update : goal.invariant-loop-update
invariant-loop-update g l = l.entries ≡ l.initial.entries ++ as_of g.T.PartialOrder.times l.time (take l.update-index l.near)
