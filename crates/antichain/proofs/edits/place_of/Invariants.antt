use Rattle.std.proofs.Common.{◌≡◌, ◌++◌, take, drop}
use Rattle.antichain.specs.Insertion.{insertion}
use Rattle.antichain.proofs.edits.place_of.Given as goal

-- the elements so far stay before the new one
abbrev pub invariant-loop-i : goal.invariant-loop-i
invariant-loop-i g l =
    let cmp = g.T.Ord.cmp in
    insertion cmp l.t l.elements ≡ take l.i l.elements ++ insertion cmp l.t (drop l.i l.elements)
