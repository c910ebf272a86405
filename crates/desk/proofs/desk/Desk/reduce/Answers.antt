use Rattle.std.proofs.Common.{rules, ◌≡◌, List, [], Option, Some, set, get_or, slice_get, IsTrue, sym, subst, ap, ◌∙◌}
use Rattle.std.proofs.lemmas.Option.{none-some, same_Some}
use Rattle.operator.specs.Reductions.{ReducingView, have_width}
use Rattle.desk_laws.specs.Own.{DeskView}
use Rattle.desk.specs.Desks.{IsReducedWith}
use Rattle.desk.proofs.DeskLemmas.{reduced_after}
use Rattle.desk.proofs.PlaceLemmas.{found_at, set_same}
use Rattle.desk.proofs.ResultLemmas.{on_err_by, on_ok_three}
use Rattle.desk.proofs.desk.Desk.reduce.Goals as goal

pub take-requires : goal.take-requires
take-requires g c =
    let r = c.requires.there in
    let us = c.args.list.now in
    let there = subst (λ (x : DeskView g.row.T.Denot). slice_get x.reductions c.args.node ≡ Some (Some r.0)) (sym c.self.view_is) r.1 in
    let mine = found_at c.self.inside.reductions.items c.number.result c.args.node c.index_mut.result.now (Some r.0) c.number.ensures c.index_mut.ensures.value there in
    let same = same_Some r.0 c.in-Some.reduction (sym mine ∙ c.in-Some.is) in (
      search rules,
      (
        c.self.invariant,
        (
          c.requires.later,
          subst (λ (a : ReducingView g.row.T.Denot). IsTrue (have_width a.width us)) same r.2,
        ),
      ),
    )

pub unreachable-requires : goal.unreachable-requires
unreachable-requires g c =
    let r = c.requires.there in
    let there = subst (λ (x : DeskView g.row.T.Denot). slice_get x.reductions c.args.node ≡ Some (Some r.0)) (sym c.self.view_is) r.1 in
    let mine = found_at c.self.inside.reductions.items c.number.result c.args.node c.index_mut.result.now (Some r.0) c.number.ensures c.index_mut.ensures.value there in
    none-some r.0 (sym c.in-None.is ∙ mine)

pub returns-clause-reduced : goal.returns-clause-reduced
returns-clause-reduced g c =
    let inside = c.self.inside in
    let times = g.T.PartialOrder.times in
    let n = c.args.node in
    let d : DeskView g.row.T.Denot = record {
      gathered = inside.gathered.items;
      arrangements = inside.arrangements.items;
      joins = inside.joins.items;
      reductions = inside.reductions.items;
    } in
    let r = c.requires.there in
    let there = subst (λ (x : DeskView g.row.T.Denot). slice_get x.reductions n ≡ Some (Some r.0)) (sym c.self.view_is) r.1 in
    let mine = found_at inside.reductions.items c.number.result n c.index_mut.result.now (Some r.0) c.number.ensures c.index_mut.ensures.value there in
    let here = there ∙ ap Some (sym mine ∙ c.in-Some.is) in
    let after = record d { reductions = set d.reductions c.number.result (Some c.take.new.self) } in
    on_ok_three c.take.result (λ kept stands pending.
    subst (λ x. IsReducedWith times n c.args.list.now x after) c.self.view_is
    (reduced_after times n d c.in-Some.reduction c.take.new.self c.args.list.now g.met.T.PartialOrder.order c.number.result c.number.ensures here kept stands pending))
    c.take.ensures.kept c.take.ensures.stands c.take.ensures.pending

pub returns-clause-same : goal.returns-clause-same
returns-clause-same g c =
    let inside = c.self.inside in
    on_err_by c.take.result (λ same.
    let now = ap Some same ∙ sym c.in-Some.is in
    ap (λ (reductions : List (Option (ReducingView g.row.T.Denot))). record {
      gathered = inside.gathered.items;
      arrangements = inside.arrangements.items;
      joins = inside.joins.items;
      reductions = reductions;
    }) (set_same inside.reductions.items c.number.result (Some c.take.new.self) (now ∙ (c.index_mut.ensures.value ∙ ap (λ x. get_or inside.reductions.items c.number.result x) (sym now))))
    ∙ c.self.view_is) c.take.ensures.same
