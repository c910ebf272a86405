use Rattle.std.proofs.Common.{suc, ◌<◌, [], map, length, arith}
use Rattle.std.proofs.lemmas.Result.{on_ok_weaker}
use Rattle.outstanding.specs.Stations.{lot, RowHasRoom}
use Rattle.outstanding.proofs.StationLemmas.{none_put, one_kept, new_turned}
use Rattle.outstanding.proofs.stations.Stations.reserve_at.Goals as goal

pub returns-clause-unchanged : goal.returns-clause-unchanged
returns-clause-unchanged g c =
    let site = c.args.site.now in
    let within : c.number-node.result < length c.self.inside.by_node.items = omega (arith, c.self.inside.by_node.ok.0) in
    none_put c.self.inside.by_node.items c.args.self.now c.self.view_is c.number-node.result site.node c.number-node.ensures c.index_mut.result.now c.reserve.new.self within c.index_mut.ensures.value (map lot) c.reserve.ensures.unchanged

pub returns-clause-room : goal.returns-clause-room
returns-clause-room g c =
    let site = c.args.site.now in
    let within : c.number-node.result < length c.self.inside.by_node.items = omega (arith, c.self.inside.by_node.ok.0) in
    on_ok_weaker c.reserve.result
    (λ more n. new_turned c.self.inside.by_node.items c.args.self.now c.self.view_is c.number-node.result site.node c.number-node.ensures c.index_mut.result.now c.reserve.new.self within c.index_mut.ensures.value (RowHasRoom site.worker site.port n) (RowHasRoom site.worker site.port (suc n)) [] (more n))
    c.reserve.ensures.room

pub returns-clause-kept : goal.returns-clause-kept
returns-clause-kept g c = λ at n.
    let site = c.args.site.now in
    let within : c.number-node.result < length c.self.inside.by_node.items = omega (arith, c.self.inside.by_node.ok.0) in
    one_kept c.self.inside.by_node.items c.args.self.now c.self.view_is c.number-node.result site.node c.number-node.ensures c.index_mut.result.now c.reserve.new.self within c.index_mut.ensures.value (RowHasRoom at.worker at.port n) [] at.node (λ _. c.reserve.ensures.kept at.worker at.port n)
