use Rattle.std.proofs.Common.{◌<◌, refl, length, arith}
use Rattle.outstanding.specs.Stations.{lot, IsReleased}
use Rattle.outstanding.proofs.StationLemmas.{none_put, each_kept, one_there}
use Rattle.outstanding.proofs.stations.Row.release.Goals as goal

pub returns-then-worker-len-clause-unchanged : goal.returns-then-worker-len-clause-unchanged
returns-then-worker-len-clause-unchanged g c =
    let within : c.args.worker < length c.self.inside.by_worker.items = omega (arith, c.self.inside.by_worker.ok.0) in
    none_put c.self.inside.by_worker.items c.args.self.now c.self.view_is c.args.worker c.args.worker refl c.index_mut.result.now c.release.new.self within c.index_mut.ensures.value lot c.release.ensures.unchanged

pub returns-then-worker-len-clause-none : goal.returns-then-worker-len-clause-none
returns-then-worker-len-clause-none g c =
    let within : c.args.worker < length c.self.inside.by_worker.items = omega (arith, c.self.inside.by_worker.ok.0) in
    one_there c.self.inside.by_worker.items c.args.self.now c.self.view_is c.args.worker c.args.worker refl c.index_mut.result.now c.release.new.self within c.index_mut.ensures.value IsReleased c.release.ensures.none

pub returns-then-worker-len-clause-kept : goal.returns-then-worker-len-clause-kept
returns-then-worker-len-clause-kept g c = λ k.
    let within : c.args.worker < length c.self.inside.by_worker.items = omega (arith, c.self.inside.by_worker.ok.0) in
    each_kept c.self.inside.by_worker.items c.args.self.now c.self.view_is c.args.worker c.args.worker refl c.index_mut.result.now c.release.new.self within c.index_mut.ensures.value IsReleased k (λ _ _. c.release.ensures.none)
