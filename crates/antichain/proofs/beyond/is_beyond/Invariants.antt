use Rattle.std.proofs.Common.{◌≡◌, drop}
use Rattle.lattice.specs.Frontiers.{is_beyond}
use Rattle.antichain.proofs.beyond.is_beyond.Given as goal

-- none of the elements so far is at or before the time
abbrev pub invariant-loop-f : goal.invariant-loop-f
invariant-loop-f g l =
    let times = g.T.PartialOrder.times in
    is_beyond times (drop l.f-index l.frontier) l.t ≡ is_beyond times l.frontier l.t
