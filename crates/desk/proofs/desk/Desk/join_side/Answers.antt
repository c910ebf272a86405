use Rattle.std.proofs.Common.{rules, ◌≡◌, List, Option, Some, get_or, length, set, slice_get, arith, sym, ap, subst, ◌∙◌}
use Rattle.std.proofs.lemmas.Option.{none-some, same_Some, slice_get_within}
use Rattle.update.specs.Refusals.{IsMemoryOrOverflow}
use Rattle.operator.specs.Joins.{JoiningView}
use Rattle.desk_laws.specs.Own.{DeskView}
use Rattle.desk.specs.Joinings.{ArePairsLarge, IsJoinedWith, IsNextAt, IsPaired}
use Rattle.desk.proofs.PlaceLemmas.{found_at, set_same, some_same}
use Rattle.desk.proofs.ResultLemmas.{if_err_from, if_ok_back, if_ok_from, memory_or, on_err_by}
use Rattle.desk.proofs.desk.Desk.join_side.Goals as goal

pub index_mut-requires : goal.index_mut-requires
index_mut-requires g c =
    let r = c.requires.next in
    let l = slice_get_within c.args.self.now.joins c.args.node (Some r.0) r.1 in
    let same = ap length (ap (λ (z : DeskView _). z.joins) c.self.view_is) in
    omega (arith, l, same, c.self.inside.joins.ok.0, c.number.ensures)

pub pair-requires : goal.pair-requires
pair-requires g c =
    let times = g.T.PartialOrder.times in
    let us = c.args.list.now in
    let r = c.requires.next in
    let there = subst (λ (x : DeskView g.row.T.Denot). slice_get x.joins c.args.node ≡ Some (Some r.0)) (sym c.self.view_is) r.1 in
    let mine = found_at c.self.inside.joins.items c.number.result c.args.node c.index_mut.result.now (Some r.0) c.number.ensures c.index_mut.ensures.value there in
    let same = same_Some r.0 c.in-Some.joining (sym mine ∙ c.in-Some.is) in
    let next = subst (λ (x : DeskView g.row.T.Denot). IsNextAt times c.args.side x.arrangements c.args.own c.args.other r.0 us) (sym c.self.view_is) r.2 in
    (search rules, subst (λ j. IsNextAt times c.args.side c.self.inside.arrangements.items c.args.own c.args.other j us) same next)

pub unreachable-requires : goal.unreachable-requires
unreachable-requires g c =
    let r = c.requires.next in
    let there = subst (λ (x : DeskView g.row.T.Denot). slice_get x.joins c.args.node ≡ Some (Some r.0)) (sym c.self.view_is) r.1 in
    let mine = found_at c.self.inside.joins.items c.number.result c.args.node c.index_mut.result.now (Some r.0) c.number.ensures c.index_mut.ensures.value there in
    none-some r.0 (sym c.in-None.is ∙ mine)

pub returns-clause-joined : goal.returns-clause-joined
returns-clause-joined g c =
    let inside = c.self.inside in
    let times = g.T.PartialOrder.times in
    let cmp = g.T.Ord.cmp in
    let us = c.args.list.now in
    let d : DeskView g.row.T.Denot = record {
      gathered = inside.gathered.items;
      arrangements = inside.arrangements.items;
      joins = inside.joins.items;
      reductions = inside.reductions.items;
    } in
    let r = c.requires.next in
    let there = subst (λ (x : DeskView g.row.T.Denot). slice_get x.joins c.args.node ≡ Some (Some r.0)) (sym c.self.view_is) r.1 in
    let mine = found_at inside.joins.items c.number.result c.args.node c.index_mut.result.now (Some r.0) c.number.ensures c.index_mut.ensures.value there in
    let here = there ∙ ap Some (sym mine ∙ c.in-Some.is) in
    let i = c.pair.new.joining in
    if_ok_from c.pair.result (λ out. IsJoinedWith times cmp c.args.side c.args.node c.args.own c.args.other us out.items c.args.self.now (record d { joins = set d.joins c.number.result (Some i) })) (λ out e.
    subst (λ x. IsJoinedWith times cmp c.args.side c.args.node c.args.own c.args.other us out.items x (record d { joins = set d.joins c.number.result (Some i) })) c.self.view_is (record {
      before = c.in-Some.joining;
      after = i;
      was = here;
      desk = ap (λ n. record d { joins = set d.joins n (Some i) }) c.number.ensures;
      paired = if_ok_back c.pair.result (λ out. IsPaired times cmp c.args.side inside.arrangements.items c.args.own c.args.other c.in-Some.joining us out.items i) out e c.pair.ensures.paired;
    }))

pub returns-clause-same : goal.returns-clause-same
returns-clause-same g c =
    let inside = c.self.inside in
    on_err_by c.pair.result (λ same.
    let now = ap Some same ∙ sym c.in-Some.is in
    ap (λ (joins : List (Option (JoiningView g.row.T.Denot))). record {
      gathered = inside.gathered.items;
      arrangements = inside.arrangements.items;
      joins = joins;
      reductions = inside.reductions.items;
    }) (set_same inside.joins.items c.number.result (Some c.pair.new.joining) (now ∙ (c.index_mut.ensures.value ∙ ap (λ x. get_or inside.joins.items c.number.result x) (sym now))))
    ∙ c.self.view_is) c.pair.ensures.same

pub returns-clause-refused : goal.returns-clause-refused
returns-clause-refused g c =
    let times = g.T.PartialOrder.times in
    let us = c.args.list.now in
    let r = c.requires.next in
    let there = subst (λ (x : DeskView g.row.T.Denot). slice_get x.joins c.args.node ≡ Some (Some r.0)) (sym c.self.view_is) r.1 in
    let mine = found_at c.self.inside.joins.items c.number.result c.args.node c.index_mut.result.now (Some r.0) c.number.ensures c.index_mut.ensures.value there in
    let same = same_Some r.0 c.in-Some.joining (sym mine ∙ c.in-Some.is) in
    if_err_from c.pair.result _ (IsMemoryOrOverflow ((j : JoiningView g.row.T.Denot) → slice_get c.args.self.now.joins c.args.node ≡ Some (Some j) → ArePairsLarge times c.args.side c.args.self.now.arrangements c.args.other j us)) (λ refusal refused. memory_or {Q = (j : JoiningView g.row.T.Denot) → slice_get c.args.self.now.joins c.args.node ≡ Some (Some j) → ArePairsLarge times c.args.side c.args.self.now.arrangements c.args.other j us} (λ large j own.
    subst (λ (x : DeskView g.row.T.Denot). ArePairsLarge times c.args.side x.arrangements c.args.other j us) c.self.view_is
    (subst (λ i. ArePairsLarge times c.args.side c.self.inside.arrangements.items c.args.other i us) (sym same ∙ some_same r.0 j (sym r.1 ∙ own)) large)) refused) c.pair.ensures.refused
