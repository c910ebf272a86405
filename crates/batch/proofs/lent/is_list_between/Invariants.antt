use Rattle.std.proofs.Common.{◌≡◌, drop}
use Rattle.batch.specs.Intervals.{all_between}
use Rattle.batch.proofs.lent.is_list_between.Given as goal

-- the updates so far are between the frontiers
abbrev pub invariant-loop-i : goal.invariant-loop-i
invariant-loop-i g l =
    let times = g.T.PartialOrder.times in
    all_between times l.lower l.upper (drop l.i l.list) ≡ all_between times l.lower l.upper l.list
