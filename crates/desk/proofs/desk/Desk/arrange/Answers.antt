use Rattle.std.proofs.Common.{◌≡◌, List, Option, Some, set, get_or, slice_get, IsTrue, sym, subst, ap, ◌∙◌}
use Rattle.std.proofs.lemmas.Option.{none-some, same_Some}
use Rattle.operator.specs.Arrangements.{ArrangementState, rows_have}
use Rattle.desk_laws.specs.Own.{DeskView}
use Rattle.desk.specs.Desks.{IsLaidIn}
use Rattle.desk.proofs.DeskLemmas.{arranged_after}
use Rattle.desk.proofs.PlaceLemmas.{found_at, set_same}
use Rattle.desk.proofs.ResultLemmas.{on_err_by, on_ok_by}
use Rattle.desk.proofs.desk.Desk.arrange.Goals as goal

pub move_into-requires-clause-rows : goal.move_into-requires-clause-rows
move_into-requires-clause-rows g c =
    let r = c.requires.there in
    let there = subst (λ (x : DeskView g.row.T.Denot). slice_get x.arrangements c.args.node ≡ Some (Some r.0)) (sym c.self.view_is) r.1 in
    let mine = found_at c.self.inside.arrangements.items c.number.result c.args.node c.index_mut.result.now (Some r.0) c.number.ensures c.index_mut.ensures.value there in
    let same = same_Some r.0 c.in-Some.arrangement (sym mine ∙ c.in-Some.is) in
    subst (λ (a : ArrangementState g.row.T.Denot). IsTrue (rows_have a.width c.args.list.now)) same r.2

pub unreachable-requires : goal.unreachable-requires
unreachable-requires g c =
    let r = c.requires.there in
    let there = subst (λ (x : DeskView g.row.T.Denot). slice_get x.arrangements c.args.node ≡ Some (Some r.0)) (sym c.self.view_is) r.1 in
    let mine = found_at c.self.inside.arrangements.items c.number.result c.args.node c.index_mut.result.now (Some r.0) c.number.ensures c.index_mut.ensures.value there in
    none-some r.0 (sym c.in-None.is ∙ mine)

pub returns-clause-laid : goal.returns-clause-laid
returns-clause-laid g c =
    let inside = c.self.inside in
    let times = g.T.PartialOrder.times in
    let d : DeskView g.row.T.Denot = record {
      gathered = inside.gathered.items;
      arrangements = inside.arrangements.items;
      joins = inside.joins.items;
      reductions = inside.reductions.items;
    } in
    let r = c.requires.there in
    let there = subst (λ (x : DeskView g.row.T.Denot). slice_get x.arrangements c.args.node ≡ Some (Some r.0)) (sym c.self.view_is) r.1 in
    let mine = found_at inside.arrangements.items c.number.result c.args.node c.index_mut.result.now (Some r.0) c.number.ensures c.index_mut.ensures.value there in
    let here = there ∙ ap Some (sym mine ∙ c.in-Some.is) in
    on_ok_by c.move_into.result (λ waiting p source key at.
    subst (λ x. IsLaidIn times p c.args.node c.args.list.now x (record d { arrangements = set d.arrangements c.number.result (Some c.move_into.new.arrangement) })) c.self.view_is
    (arranged_after times p c.args.node d c.in-Some.arrangement c.move_into.new.arrangement c.args.list.now c.number.result c.number.ensures here
    waiting source key at)) c.move_into.ensures.waiting

pub returns-clause-same : goal.returns-clause-same
returns-clause-same g c =
    let inside = c.self.inside in
    on_err_by c.move_into.result (λ same.
    let now = ap Some same ∙ sym c.in-Some.is in
    ap (λ (arrangements : List (Option (ArrangementState g.row.T.Denot))). record {
      gathered = inside.gathered.items;
      arrangements = arrangements;
      joins = inside.joins.items;
      reductions = inside.reductions.items;
    }) (set_same inside.arrangements.items c.number.result (Some c.move_into.new.arrangement) (now ∙ (c.index_mut.ensures.value ∙ ap (λ x. get_or inside.arrangements.items c.number.result x) (sym now))))
    ∙ c.self.view_is) c.move_into.ensures.same
