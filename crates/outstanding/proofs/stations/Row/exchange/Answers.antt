use Rattle.std.proofs.Common.{◌<◌, refl, sym, subst, length}
use Rattle.outstanding.specs.Loads.{Lot, no_lot}
use Rattle.outstanding.specs.Stations.{lot}
use Rattle.outstanding.proofs.StationLemmas.{one_put}
use Rattle.outstanding.proofs.stations.Row.exchange.Goals as goal

pub returns-clause-held : goal.returns-clause-held
returns-clause-held g c =
    let within : c.args.worker < length c.self.inside.by_worker.items = subst (λ row. c.args.worker < length row) (sym c.self.view_is) c.requires.staffed in
    one_put c.self.inside.by_worker.items c.args.self.now c.self.view_is c.args.worker c.args.worker refl c.index_mut.result.now c.exchange.new.self within c.index_mut.ensures.value lot (λ (seen : Lot g.row.T.Denot). record seen { held = c.args.held }) no_lot c.exchange.ensures.held
