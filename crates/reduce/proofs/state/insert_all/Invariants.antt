use Rattle.std.proofs.Common.{◌≡◌, ◌||◌, take}
use Rattle.lattice.specs.Frontiers.{is_beyond}
use Rattle.reduce.proofs.state.insert_all.Given as goal

abbrev pub invariant-loop-time : goal.invariant-loop-time
invariant-loop-time g l = (t : g.row.T.Denot) → is_beyond g.T.PartialOrder.times l.held t ≡ (is_beyond g.T.PartialOrder.times l.fn.held t || is_beyond g.T.PartialOrder.times (take l.time-index l.times) t)
