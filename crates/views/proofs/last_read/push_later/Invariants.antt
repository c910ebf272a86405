use Rattle.std.proofs.Common.{◌≡◌}
use Rattle.views.specs.Views.{later_below}
use Rattle.views.proofs.last_read.push_later.Given as goal

-- the positions so far
abbrev pub invariant-loop-position : goal.invariant-loop-position
invariant-loop-position g l = l.later.items ≡ later_below g.T.PartialOrder.times l.t l.captured l.position
