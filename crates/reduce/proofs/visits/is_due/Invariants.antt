use Rattle.std.proofs.Common.{◌≡◌, false, not, take}
use Rattle.std.specs.List.{list_any}
use Rattle.lattice.specs.Frontiers.{is_beyond}
use Rattle.reduce.proofs.visits.is_due.Given as goal

abbrev pub invariant-loop-time : goal.invariant-loop-time
invariant-loop-time g l = list_any (λ t. not (is_beyond g.T.PartialOrder.times l.frontier t)) (take l.time-index l.due) ≡ false
