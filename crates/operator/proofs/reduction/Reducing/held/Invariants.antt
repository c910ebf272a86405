use Rattle.std.proofs.Common.{◌≡◌, take}
use Rattle.std.specs.List.{list_any}
use Rattle.lattice.specs.Frontiers.{is_beyond}
use Rattle.reduce.proofs.HeldLemmas.{pending_under}
use Rattle.operator.proofs.reduction.Reducing.held.Given as goal

abbrev pub invariant-loop-place : goal.invariant-loop-place
invariant-loop-place g l = (t : g.row.T.Denot) → is_beyond g.T.PartialOrder.times l.held.items t ≡ list_any (pending_under g.T.PartialOrder.times l.self.state.histories t) (take l.place-index l.self.state.waiting)
