use Rattle.std.proofs.Common.{◌<◌, [], map, length, arith}
use Rattle.outstanding.specs.Loads.{Load, without_load_at, at_worker}
use Rattle.outstanding.specs.Stations.{lot, lots}
use Rattle.outstanding.proofs.StationLemmas.{on_err_plain, seen_within, one_put, none_put, one_seen, waits_at_node, waits_as_bundle}
use Rattle.outstanding.proofs.stations.Stations.take.Goals as goal

pub index_mut-row-requires : goal.index_mut-row-requires
index_mut-row-requires g c =
    let site = c.args.site.now in
    let within : c.number.result < length c.self.inside.by_node.items = seen_within (map lot) c.self.inside.by_node.items c.args.self.now c.self.view_is c.number.result site.node c.number.ensures (waits_at_node (lots c.args.self.now) site c.args.number c.requires) in
    omega (arith, c.self.inside.by_node.ok.0)

pub returns-in_err-updates-clause-unchanged : goal.returns-in_err-updates-clause-unchanged
returns-in_err-updates-clause-unchanged g c =
    let site = c.args.site.now in
    let within : c.number.result < length c.self.inside.by_node.items = seen_within (map lot) c.self.inside.by_node.items c.args.self.now c.self.view_is c.number.result site.node c.number.ensures (waits_at_node (lots c.args.self.now) site c.args.number c.requires) in
    on_err_plain c.from_residual.result (none_put c.self.inside.by_node.items c.args.self.now c.self.view_is c.number.result site.node c.number.ensures c.index_mut-row.result.now c.take.new.self within c.index_mut-row.ensures.value (map lot) c.in_err-updates.ensures.unchanged)

pub returns-clause-waited : goal.returns-clause-waited
returns-clause-waited g c =
    let site = c.args.site.now in
    let within : c.number.result < length c.self.inside.by_node.items = seen_within (map lot) c.self.inside.by_node.items c.args.self.now c.self.view_is c.number.result site.node c.number.ensures (waits_at_node (lots c.args.self.now) site c.args.number c.requires) in
    let load : Load g.row.T.Denot = record { updates = c.in_ok-updates.updates; stamp = c.in_ok-updates.stamp } in
    waits_as_bundle (lots c.args.self.now) site c.args.number (map lot c.index_mut-row.result.now) load (one_seen c.self.inside.by_node.items c.args.self.now c.self.view_is c.number.result site.node c.number.ensures c.index_mut-row.result.now c.take.new.self within c.index_mut-row.ensures.value (map lot) []) c.in_ok-updates.ensures.load

pub returns-clause-taken : goal.returns-clause-taken
returns-clause-taken g c =
    let site = c.args.site.now in
    let within : c.number.result < length c.self.inside.by_node.items = seen_within (map lot) c.self.inside.by_node.items c.args.self.now c.self.view_is c.number.result site.node c.number.ensures (waits_at_node (lots c.args.self.now) site c.args.number c.requires) in
    one_put c.self.inside.by_node.items c.args.self.now c.self.view_is c.number.result site.node c.number.ensures c.index_mut-row.result.now c.take.new.self within c.index_mut-row.ensures.value (map lot) (at_worker site.worker (without_load_at site.port c.args.number c.in_ok-updates.stamp)) [] c.in_ok-updates.ensures.taken
