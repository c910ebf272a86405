use Rattle.std.proofs.Common.{suc, ◌<◌, refl, length, eqb, arith}
use Rattle.std.proofs.lemmas.Bool.{eq-eqb}
use Rattle.outstanding.specs.Loads.{no_lot, with_load_at, load_of}
use Rattle.outstanding.specs.Stations.{lot, has_room}
use Rattle.outstanding.proofs.StationLemmas.{one_put, each_kept, one_turned}
use Rattle.outstanding.proofs.RoomLemmas.{first_fails}
use Rattle.outstanding.proofs.stations.Row.put_reserved.Goals as goal

pub returns-then-worker-len-clause-put : goal.returns-then-worker-len-clause-put
returns-then-worker-len-clause-put g c =
    let within : c.args.worker < length c.self.inside.by_worker.items = omega (arith, c.self.inside.by_worker.ok.0) in
    one_put c.self.inside.by_worker.items c.args.self.now c.self.view_is c.args.worker c.args.worker refl c.index_mut.result.now c.put_reserved.new.self within c.index_mut.ensures.value lot (with_load_at c.args.port (load_of c.args.parcel)) no_lot c.put_reserved.ensures.put

pub returns-then-worker-len-clause-room : goal.returns-then-worker-len-clause-room
returns-then-worker-len-clause-room g c = λ n.
    let within : c.args.worker < length c.self.inside.by_worker.items = omega (arith, c.self.inside.by_worker.ok.0) in
    one_turned c.self.inside.by_worker.items c.args.self.now c.self.view_is c.args.worker c.args.worker refl c.index_mut.result.now c.put_reserved.new.self within c.index_mut.ensures.value (has_room c.args.port (suc n)) (has_room c.args.port n) (c.put_reserved.ensures.room n)

pub returns-then-worker-len-clause-others : goal.returns-then-worker-len-clause-others
returns-then-worker-len-clause-others g c = λ k p n apart.
    let within : c.args.worker < length c.self.inside.by_worker.items = omega (arith, c.self.inside.by_worker.ok.0) in
    each_kept c.self.inside.by_worker.items c.args.self.now c.self.view_is c.args.worker c.args.worker refl c.index_mut.result.now c.put_reserved.new.self within c.index_mut.ensures.value (has_room p n) k
    (λ here. c.put_reserved.ensures.others p n (first_fails (eqb c.args.port p) (eqb c.args.worker k) (eq-eqb c.args.worker k here) apart))
