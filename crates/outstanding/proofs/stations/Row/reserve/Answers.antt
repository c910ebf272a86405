use Rattle.std.proofs.Common.{suc, ◌<◌, refl, length, arith}
use Rattle.std.proofs.lemmas.Result.{on_ok_weaker}
use Rattle.outstanding.specs.Stations.{lot, has_room}
use Rattle.outstanding.proofs.StationLemmas.{none_put, each_kept, one_turned}
use Rattle.outstanding.proofs.stations.Row.reserve.Goals as goal

pub returns-clause-unchanged : goal.returns-clause-unchanged
returns-clause-unchanged g c =
    let within : c.args.worker < length c.self.inside.by_worker.items = omega (arith, c.self.inside.by_worker.ok.0) in
    none_put c.self.inside.by_worker.items c.args.self.now c.self.view_is c.args.worker c.args.worker refl c.index_mut.result.now c.reserve.new.self within c.index_mut.ensures.value lot c.reserve.ensures.unchanged

pub returns-clause-room : goal.returns-clause-room
returns-clause-room g c =
    let within : c.args.worker < length c.self.inside.by_worker.items = omega (arith, c.self.inside.by_worker.ok.0) in
    on_ok_weaker c.reserve.result
    (λ more n. one_turned c.self.inside.by_worker.items c.args.self.now c.self.view_is c.args.worker c.args.worker refl c.index_mut.result.now c.reserve.new.self within c.index_mut.ensures.value (has_room c.args.port n) (has_room c.args.port (suc n)) (more n))
    c.reserve.ensures.room

pub returns-clause-kept : goal.returns-clause-kept
returns-clause-kept g c = λ k p n.
    let within : c.args.worker < length c.self.inside.by_worker.items = omega (arith, c.self.inside.by_worker.ok.0) in
    each_kept c.self.inside.by_worker.items c.args.self.now c.self.view_is c.args.worker c.args.worker refl c.index_mut.result.now c.reserve.new.self within c.index_mut.ensures.value (has_room p n) k (λ _. c.reserve.ensures.kept p n)
