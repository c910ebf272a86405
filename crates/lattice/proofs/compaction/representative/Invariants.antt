use Rattle.std.proofs.Common.{◌≡◌, drop, map}
use Rattle.std.specs.List.{fold}
use Rattle.lattice.specs.Representatives.{representative_of}
use Rattle.lattice.proofs.compaction.representative.Given as goal

-- the meet so far, met with the joins still to come, is the representative
abbrev pub invariant-loop-f : goal.invariant-loop-f
invariant-loop-f g l =
    let m = g.T.PartialOrder.times in
    fold m.met l.met (map (m.joined l.t) (drop l.f-index l.rest)) ≡ representative_of m l.frontier l.t
