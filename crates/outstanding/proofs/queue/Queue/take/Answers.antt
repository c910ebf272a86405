use Rattle.std.proofs.Common.{◌≡◌, ◌<◌, ◌∙◌, ap, sym, subst, refl, length, map, set, get_or, slice_get, Option}
use Rattle.std.specs.List.{remove}
use Rattle.std.specs.Option.{IfSome, OnSome}
use Rattle.outstanding.specs.declared.queue.Parcel.{Parcel}
use Rattle.outstanding.specs.Loads.{QueueState, load_of}
use Rattle.outstanding.specs.declared.queue.Parcel.TheVariants.{Sent}
use Rattle.outstanding.proofs.StationLemmas.{on_err_plain, seen_within, none_put, one_gone, one_read}
use Rattle.outstanding.proofs.queue.Queue.take.Goals as goal

pub returns-in_err-unpack-clause-unchanged : goal.returns-in_err-unpack-clause-unchanged
returns-in_err-unpack-clause-unchanged g c =
    let items = c.self.inside.parcels.items in
    let within : c.args.number < length items = seen_within load_of items items refl c.args.number c.args.number refl (subst (λ (q : QueueState g.row.T.Denot). c.args.number < length q.loads) (sym c.self.view_is) c.requires) in
    on_err_plain c.from_residual.result (none_put items items refl c.args.number c.args.number refl c.index_mut.result.now c.unpack.new.self within c.index_mut.ensures.value load_of c.unpack.ensures.unchanged ∙ ap (λ (q : QueueState g.row.T.Denot). q.loads) c.self.view_is)

pub returns-in_err-hold_stamp-clause-unchanged : goal.returns-in_err-hold_stamp-clause-unchanged
returns-in_err-hold_stamp-clause-unchanged g c =
    let items = c.self.inside.parcels.items in
    let within : c.args.number < length items = seen_within load_of items items refl c.args.number c.args.number refl (subst (λ (q : QueueState g.row.T.Denot). c.args.number < length q.loads) (sym c.self.view_is) c.requires) in
    on_err_plain c.from_residual-in_err-hold_stamp.result (none_put items items refl c.args.number c.args.number refl c.index_mut.result.now c.unpack.new.self within c.index_mut.ensures.value load_of c.unpack.ensures.unchanged ∙ ap (λ (q : QueueState g.row.T.Denot). q.loads) c.self.view_is)

pub returns-clause-load : goal.returns-clause-load
returns-clause-load g c =
    let items = c.self.inside.parcels.items in
    let within : c.args.number < length items = seen_within load_of items items refl c.args.number c.args.number refl (subst (λ (q : QueueState g.row.T.Denot). c.args.number < length q.loads) (sym c.self.view_is) c.requires) in
    let found = Sent c.in-Sent.updates c.in-Sent.stamp in
    ap (λ (q : QueueState g.row.T.Denot). slice_get q.loads c.args.number) (sym c.self.view_is)
    ∙ one_read items items refl c.args.number c.args.number refl c.index_mut.result.now c.unpack.new.self within c.index_mut.ensures.value load_of found c.unpack.ensures.unchanged
    (subst (λ (o : Option (Parcel g.row.T.Denot)). IfSome o (λ y. y ≡ get_or (set items c.args.number c.unpack.new.self) c.args.number y)) c.in-Sent.ensures c.remove.ensures.value)

pub returns-clause-rest : goal.returns-clause-rest
returns-clause-rest g c =
    let items = c.self.inside.parcels.items in
    let within : c.args.number < length items = seen_within load_of items items refl c.args.number c.args.number refl (subst (λ (q : QueueState g.row.T.Denot). c.args.number < length q.loads) (sym c.self.view_is) c.requires) in
    ap (map load_of) (subst (λ (o : Option (Parcel g.row.T.Denot)). OnSome o (c.remove.new.self.items ≡ remove (set items c.args.number c.unpack.new.self) c.args.number)) c.in-Sent.ensures c.remove.ensures.items)
    ∙ (one_gone items items refl c.args.number c.args.number refl c.index_mut.result.now c.unpack.new.self within c.index_mut.ensures.value load_of c.unpack.ensures.unchanged
    ∙ ap (λ (q : QueueState g.row.T.Denot). remove q.loads c.args.number) c.self.view_is)
