use Rattle.std.proofs.Common.{◌≡◌}
use Rattle.lattice.specs.Frontiers.{is_beyond}
use Rattle.desk.specs.Upkeep.{due_before}
use Rattle.desk.proofs.desk.Desk.level.Given as goal

-- the times of the nodes so far
abbrev pub invariant-loop-n : goal.invariant-loop-n
invariant-loop-n g l = (t : g.row.T.Denot) → is_beyond g.T.PartialOrder.times l.level t ≡ is_beyond g.T.PartialOrder.times (due_before l.fronts l.self.reductions l.source l.plan l.n) t
