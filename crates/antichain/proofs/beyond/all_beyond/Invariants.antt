use Rattle.std.proofs.Common.{◌≡◌, drop}
use Rattle.lattice.specs.Frontiers.{all_beyond}
use Rattle.antichain.proofs.beyond.all_beyond.Given as goal

-- all of the elements so far are beyond the earlier frontier
abbrev pub invariant-loop-t : goal.invariant-loop-t
invariant-loop-t g l =
    let times = g.T.PartialOrder.times in
    all_beyond times l.earlier (drop l.t-index l.later) ≡ all_beyond times l.earlier l.later
