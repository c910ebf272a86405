use Rattle.std.proofs.Common.{◌+◌}
use Rattle.operator.specs.Arrangements.{IsNew}
use Rattle.operator.proofs.arrangement.Arrangement.new.Given as goal

-- the arrangement is new, with a hold for each reader so far
abbrev pub invariant-loop-reader : goal.invariant-loop-reader
invariant-loop-reader g l = IsNew g.T.PartialOrder.times l.worker l.node l.width (l._reader + 1) l.made
