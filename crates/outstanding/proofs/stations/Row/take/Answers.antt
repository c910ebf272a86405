use Rattle.std.proofs.Common.{◌<◌, refl, map, length}
use Rattle.std.proofs.lemmas.Result.{IfOk-weaker, on_err_weaker}
use Rattle.outstanding.specs.Loads.{no_lot, without_load_at}
use Rattle.outstanding.specs.Stations.{lot}
use Rattle.outstanding.proofs.StationLemmas.{seen_within, one_put, none_put, worker_within}
use Rattle.outstanding.proofs.stations.Row.take.Goals as goal

pub returns-clause-taken : goal.returns-clause-taken
returns-clause-taken g c =
    let within : c.args.worker < length c.self.inside.by_worker.items = seen_within lot c.self.inside.by_worker.items c.args.self.now c.self.view_is c.args.worker c.args.worker refl (worker_within c.args.port c.args.worker c.args.number (map lot c.args.self.now) c.requires) in
    IfOk-weaker c.take.result _ _ (λ load. one_put c.self.inside.by_worker.items c.args.self.now c.self.view_is c.args.worker c.args.worker refl c.index_mut.result.now c.take.new.self within c.index_mut.ensures.value lot (without_load_at c.args.port c.args.number load.1) no_lot) c.take.ensures.taken

pub returns-clause-unchanged : goal.returns-clause-unchanged
returns-clause-unchanged g c =
    let within : c.args.worker < length c.self.inside.by_worker.items = seen_within lot c.self.inside.by_worker.items c.args.self.now c.self.view_is c.args.worker c.args.worker refl (worker_within c.args.port c.args.worker c.args.number (map lot c.args.self.now) c.requires) in
    on_err_weaker c.take.result (none_put c.self.inside.by_worker.items c.args.self.now c.self.view_is c.args.worker c.args.worker refl c.index_mut.result.now c.take.new.self within c.index_mut.ensures.value lot) c.take.ensures.unchanged
