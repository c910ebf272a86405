use Rattle.std.proofs.Common.{suc, ◌<◌, ◌&&◌, eqb, [], map, length, arith}
use Rattle.std.proofs.lemmas.Bool.{eq-eqb}
use Rattle.outstanding.specs.Loads.{with_load_at, load_of, at_worker}
use Rattle.outstanding.specs.Stations.{lot, RowHasRoom}
use Rattle.outstanding.proofs.StationLemmas.{one_put, one_kept, new_turned}
use Rattle.outstanding.proofs.RoomLemmas.{rest_fails}
use Rattle.outstanding.proofs.stations.Stations.put_reserved.Goals as goal

pub returns-then-node-len-clause-put : goal.returns-then-node-len-clause-put
returns-then-node-len-clause-put g c =
    let site = c.args.site.now in
    let within : c.number-node.result < length c.self.inside.by_node.items = omega (arith, c.self.inside.by_node.ok.0) in
    one_put c.self.inside.by_node.items c.args.self.now c.self.view_is c.number-node.result site.node c.number-node.ensures c.index_mut.result.now c.put_reserved.new.self within c.index_mut.ensures.value (map lot) (at_worker site.worker (with_load_at site.port (load_of c.args.parcel))) [] c.put_reserved.ensures.put

pub returns-then-node-len-clause-room : goal.returns-then-node-len-clause-room
returns-then-node-len-clause-room g c = λ n.
    let site = c.args.site.now in
    let within : c.number-node.result < length c.self.inside.by_node.items = omega (arith, c.self.inside.by_node.ok.0) in
    new_turned c.self.inside.by_node.items c.args.self.now c.self.view_is c.number-node.result site.node c.number-node.ensures c.index_mut.result.now c.put_reserved.new.self within c.index_mut.ensures.value (RowHasRoom site.worker site.port (suc n)) (RowHasRoom site.worker site.port n) [] (c.put_reserved.ensures.room n)

pub returns-then-node-len-clause-others : goal.returns-then-node-len-clause-others
returns-then-node-len-clause-others g c = λ at n apart.
    let site = c.args.site.now in
    let within : c.number-node.result < length c.self.inside.by_node.items = omega (arith, c.self.inside.by_node.ok.0) in
    one_kept c.self.inside.by_node.items c.args.self.now c.self.view_is c.number-node.result site.node c.number-node.ensures c.index_mut.result.now c.put_reserved.new.self within c.index_mut.ensures.value (RowHasRoom at.worker at.port n) [] at.node
    (λ here. c.put_reserved.ensures.others at.worker at.port n (rest_fails (eqb site.node at.node) (eqb site.port at.port && eqb site.worker at.worker) (eq-eqb site.node at.node here) apart))
