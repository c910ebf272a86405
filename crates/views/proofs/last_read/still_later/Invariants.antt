use Rattle.std.proofs.Common.{◌≡◌, take}
use Rattle.std.specs.List.{filter}
use Rattle.views.specs.Views.{is_later_at}
use Rattle.views.proofs.last_read.still_later.Given as goal

abbrev pub invariant-loop-position : goal.invariant-loop-position
invariant-loop-position g l = l.later.items ≡ filter (is_later_at g.T.PartialOrder.times l.t l.captured) (take l.position-index l.positions)
