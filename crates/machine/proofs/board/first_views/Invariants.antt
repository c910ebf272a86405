use Rattle.std.proofs.Common.{◌≡◌, [], ◌∷◌, replicate}
use Rattle.machine.proofs.board.first_views.Given as goal

abbrev pub invariant-loop-node : goal.invariant-loop-node
invariant-loop-node g l = l.views.items ≡ replicate l._node (record { since = g.T.PartialOrder.times.least ∷ []; captured = [] })
