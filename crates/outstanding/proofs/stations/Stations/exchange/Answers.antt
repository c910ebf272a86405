use Rattle.std.proofs.Common.{◌<◌, [], map, length}
use Rattle.outstanding.specs.Loads.{Lot, at_worker}
use Rattle.outstanding.specs.Stations.{lot, lots}
use Rattle.outstanding.proofs.StationLemmas.{seen_within, node_within, one_put}
use Rattle.outstanding.proofs.stations.Stations.exchange.Goals as goal

pub returns-clause-held : goal.returns-clause-held
returns-clause-held g c =
    let within : c.number.result < length c.self.inside.by_node.items = seen_within (map lot) c.self.inside.by_node.items c.args.self.now c.self.view_is c.number.result c.args.node c.number.ensures (node_within (lots c.args.self.now) c.args.node c.args.worker c.requires.staffed) in
    one_put c.self.inside.by_node.items c.args.self.now c.self.view_is c.number.result c.args.node c.number.ensures c.index_mut-row.result.now c.exchange.new.self within c.index_mut-row.ensures.value (map lot) (at_worker c.args.worker (λ (seen : Lot g.row.T.Denot). record seen { held = c.args.held })) [] c.exchange.ensures.held
