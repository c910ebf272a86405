use Rattle.std.proofs.Common.{◌<◌, [], map, length, arith}
use Rattle.std.proofs.lemmas.Result.{on_ok_weaker, on_err_weaker}
use Rattle.outstanding.specs.Loads.{with_load_at, load_of, at_worker}
use Rattle.outstanding.specs.Stations.{lot}
use Rattle.outstanding.proofs.StationLemmas.{one_put, none_put}
use Rattle.outstanding.proofs.stations.Stations.put.Goals as goal

pub returns-clause-put : goal.returns-clause-put
returns-clause-put g c =
    let site = c.args.site.now in
    let within : c.number-node.result < length c.self.inside.by_node.items = omega (arith, c.self.inside.by_node.ok.0) in
    on_ok_weaker c.put.result (one_put c.self.inside.by_node.items c.args.self.now c.self.view_is c.number-node.result site.node c.number-node.ensures c.index_mut.result.now c.put.new.self within c.index_mut.ensures.value (map lot) (at_worker site.worker (with_load_at site.port (load_of c.args.parcel))) []) c.put.ensures.put

pub returns-clause-unchanged : goal.returns-clause-unchanged
returns-clause-unchanged g c =
    let site = c.args.site.now in
    let within : c.number-node.result < length c.self.inside.by_node.items = omega (arith, c.self.inside.by_node.ok.0) in
    on_err_weaker c.put.result (none_put c.self.inside.by_node.items c.args.self.now c.self.view_is c.number-node.result site.node c.number-node.ensures c.index_mut.result.now c.put.new.self within c.index_mut.ensures.value (map lot)) c.put.ensures.unchanged
