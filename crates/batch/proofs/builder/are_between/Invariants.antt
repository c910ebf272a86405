use Rattle.std.proofs.Common.{◌≡◌, drop}
use Rattle.batch.specs.Intervals.{all_between}
use Rattle.batch.proofs.builder.are_between.Given as goal

-- the updates so far are between the frontiers
abbrev pub invariant-loop-update : goal.invariant-loop-update
invariant-loop-update g l =
    let times = g.T.PartialOrder.times in
    all_between times l.lower l.upper (drop l.update-index l.updates) ≡ all_between times l.lower l.upper l.updates
