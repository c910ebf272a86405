use Rattle.std.proofs.Common.{◌≡◌, drop}
use Rattle.batch.specs.Intervals.{all_between, passed_updates}
use Rattle.batch.proofs.passed.are_passed_between.Given as goal

-- the updates so far are between the frontiers, if they are passed
abbrev pub invariant-loop-update : goal.invariant-loop-update
invariant-loop-update g l =
    let times = g.T.PartialOrder.times in
    all_between times l.lower l.upper (passed_updates times l.upper (drop l.update-index l.updates)) ≡ all_between times l.lower l.upper (passed_updates times l.upper l.updates)
