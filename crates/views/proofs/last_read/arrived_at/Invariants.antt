use Rattle.std.proofs.Common.{map, take}
use Rattle.std.specs.List.{flat_map}
use Rattle.update.specs.Bags.{Alike}
use Rattle.update.specs.Updates.{as_of, entry}
use Rattle.views.specs.Views.{update_at}
use Rattle.views.proofs.last_read.arrived_at.Given as goal

-- those at the positions so far are added up
abbrev pub invariant-loop-position : goal.invariant-loop-position
invariant-loop-position g l = Alike (map entry l.arrived.items) (flat_map (λ k. as_of g.T.PartialOrder.times l.t (update_at l.captured k)) (take l.position-index l.positions))
