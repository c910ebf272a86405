use Rattle.std.proofs.Common.{◌≡◌, take}
use Rattle.std.specs.List.{flat_map}
use Rattle.histories.specs.Histories.Cuts.{cut_along}
use Rattle.machine.proofs.board.routing.Routing.cut_along_first.Given as goal

-- the bundles along the edges so far
abbrev pub invariant-loop-edge : goal.invariant-loop-edge
invariant-loop-edge g l = l.sent.items ≡ flat_map (cut_along g.T.PartialOrder.times l.self l.emission) (take l.edge-index l.edge-items)
