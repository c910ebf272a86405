use Rattle.std.proofs.Common.{◌<◌, refl, length, arith}
use Rattle.std.proofs.lemmas.Result.{on_ok_weaker, on_err_weaker}
use Rattle.outstanding.specs.Loads.{no_lot, with_load_at, load_of}
use Rattle.outstanding.specs.Stations.{lot}
use Rattle.outstanding.proofs.StationLemmas.{one_put, none_put}
use Rattle.outstanding.proofs.stations.Row.put.Goals as goal

pub returns-clause-put : goal.returns-clause-put
returns-clause-put g c =
    let within : c.args.worker < length c.self.inside.by_worker.items = omega (arith, c.self.inside.by_worker.ok.0) in
    on_ok_weaker c.put.result (one_put c.self.inside.by_worker.items c.args.self.now c.self.view_is c.args.worker c.args.worker refl c.index_mut.result.now c.put.new.self within c.index_mut.ensures.value lot (with_load_at c.args.port (load_of c.args.parcel)) no_lot) c.put.ensures.put

pub returns-clause-unchanged : goal.returns-clause-unchanged
returns-clause-unchanged g c =
    let within : c.args.worker < length c.self.inside.by_worker.items = omega (arith, c.self.inside.by_worker.ok.0) in
    on_err_weaker c.put.result (none_put c.self.inside.by_worker.items c.args.self.now c.self.view_is c.args.worker c.args.worker refl c.index_mut.result.now c.put.new.self within c.index_mut.ensures.value lot) c.put.ensures.unchanged
