use Rattle.desk.specs.Openings.{IsLaidOut}
use Rattle.desk.proofs.desk.Desk.new.Given as goal

-- the desk is laid out for the nodes so far
abbrev pub invariant-loop-n : goal.invariant-loop-n
invariant-loop-n g l = IsLaidOut g.T.PartialOrder.times l.plan l.desk l.n
