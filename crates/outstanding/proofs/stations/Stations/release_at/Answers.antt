use Rattle.std.proofs.Common.{◌<◌, [], map, length, slice_get, List, arith}
use Rattle.std.specs.Option.{IfSome}
use Rattle.outstanding.specs.Stations.{lot, IsReleased}
use Rattle.outstanding.specs.declared.stations.Station.{Station}
use Rattle.outstanding.proofs.StationLemmas.{none_put, one_kept, new_there}
use Rattle.outstanding.proofs.stations.Stations.release_at.Goals as goal

pub returns-then-node-len-clause-unchanged : goal.returns-then-node-len-clause-unchanged
returns-then-node-len-clause-unchanged g c =
    let site = c.args.site.now in
    let within : c.number-node.result < length c.self.inside.by_node.items = omega (arith, c.self.inside.by_node.ok.0) in
    none_put c.self.inside.by_node.items c.args.self.now c.self.view_is c.number-node.result site.node c.number-node.ensures c.index_mut.result.now c.release.new.self within c.index_mut.ensures.value (map lot) c.release.ensures.unchanged

pub returns-then-node-len-clause-none : goal.returns-then-node-len-clause-none
returns-then-node-len-clause-none g c =
    let site = c.args.site.now in
    let within : c.number-node.result < length c.self.inside.by_node.items = omega (arith, c.self.inside.by_node.ok.0) in
    new_there c.self.inside.by_node.items c.args.self.now c.self.view_is c.number-node.result site.node c.number-node.ensures c.index_mut.result.now c.release.new.self within c.index_mut.ensures.value (λ (row : List (Station g.row.T.Denot)). IfSome (slice_get row site.worker) IsReleased) [] c.release.ensures.none

pub returns-then-node-len-clause-kept : goal.returns-then-node-len-clause-kept
returns-then-node-len-clause-kept g c = λ at.
    let site = c.args.site.now in
    let within : c.number-node.result < length c.self.inside.by_node.items = omega (arith, c.self.inside.by_node.ok.0) in
    one_kept c.self.inside.by_node.items c.args.self.now c.self.view_is c.number-node.result site.node c.number-node.ensures c.index_mut.result.now c.release.new.self within c.index_mut.ensures.value (λ (row : List (Station g.row.T.Denot)). IfSome (slice_get row at.worker) IsReleased) [] at.node (λ _. c.release.ensures.kept at.worker)
