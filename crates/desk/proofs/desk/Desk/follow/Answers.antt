use Rattle.std.proofs.Common.{rules, arith, ◌≡◌, ℕ, List, Some, slice_get, set, sym, ap, subst, ◌∙◌}
use Rattle.std.proofs.lemmas.Option.{none-some, same_Some}
use Rattle.antichain.specs.Antichains.{IsFrontier}
use Rattle.desk_laws.specs.Own.{DeskView, boundary_at, hold_at, other_port}
use Rattle.desk.specs.Upkeep.{HasMoved, MayMove, front_of_port}
use Rattle.desk.proofs.PlaceLemmas.{found_at, get_inside, some_same}
use Rattle.desk.proofs.ResultLemmas.{on_err_by, on_ok_by}
use Rattle.desk.proofs.desk.Desk.follow.Goals as goal

pub index-requires : goal.index-requires
index-requires g c =
    let r = c.requires.may in
    let there = subst (λ (x : DeskView g.row.T.Denot). slice_get x.joins c.args.node ≡ Some (Some r.0)) (sym c.self.view_is) r.1 in
    let within = get_inside c.self.inside.joins.items c.args.node (Some r.0) there in
    omega (arith, within, c.number.ensures, c.self.inside.joins.ok.0)

pub move_hold_at-requires : goal.move_hold_at-requires
move_hold_at-requires g c =
    let times = g.T.PartialOrder.times in
    let port = c.args.port in
    let r = c.requires.may in
    let there = subst (λ (x : DeskView g.row.T.Denot). slice_get x.joins c.args.node ≡ Some (Some r.0)) (sym c.self.view_is) r.1 in
    let mine = found_at c.self.inside.joins.items c.number.result c.args.node c.index.result.now (Some r.0) c.number.ensures c.index.ensures there in
    let same = same_Some r.0 c.in-Some.join (sym mine ∙ c.in-Some.is) in
    let own = subst (λ (x : DeskView g.row.T.Denot). slice_get x.arrangements c.args.source ≡ Some (Some r.2)) (sym c.self.view_is) r.3 in
    let number = ap (hold_at port) same ∙ sym c.hold_on.ensures in
    let boundary = ap (boundary_at port) same ∙ sym c.boundary_on.ensures.value in
    let logical : front_of_port c.args.fronts.now c.args.node (other_port port) ≡ c.front_of.result.now = ap (front_of_port c.args.fronts.now c.args.node) (sym c.other.ensures.value) ∙ sym c.front_of.ensures.value in
    let may : MayMove times r.2 c.hold_on.result c.front_of.result.now c.boundary_on.result.now = subst (λ (z : ℕ × List g.row.T.Denot × List g.row.T.Denot). MayMove times r.2 z.0 z.1 z.2) (λ i. (number i, logical i, boundary i)) r.4 in
    (search rules, ((r.2, own, may), (c.front_of.ensures.frontier, subst (λ F. IsFrontier times g.T.Ord.cmp F) (sym c.boundary_on.ensures.value) c.boundary_on.ensures.frontier)))

pub unreachable-requires : goal.unreachable-requires
unreachable-requires g c =
    let r = c.requires.may in
    let there = subst (λ (x : DeskView g.row.T.Denot). slice_get x.joins c.args.node ≡ Some (Some r.0)) (sym c.self.view_is) r.1 in
    let mine = found_at c.self.inside.joins.items c.number.result c.args.node c.index.result.now (Some r.0) c.number.ensures c.index.ensures there in
    none-some r.0 (sym c.in-None.is ∙ mine)

pub returns-clause-moved : goal.returns-clause-moved
returns-clause-moved g c j at a own =
    let inside = c.self.inside in
    let d : DeskView g.row.T.Denot = record { gathered = inside.gathered.items; arrangements = inside.arrangements.items; joins = inside.joins.items; reductions = inside.reductions.items } in
    let times = g.T.PartialOrder.times in
    let port = c.args.port in
    let s = c.args.source in
    let r = c.requires.may in
    let there = subst (λ (x : DeskView g.row.T.Denot). slice_get x.joins c.args.node ≡ Some (Some r.0)) (sym c.self.view_is) r.1 in
    let mine = found_at c.self.inside.joins.items c.number.result c.args.node c.index.result.now (Some r.0) c.number.ensures c.index.ensures there in
    let same = sym (same_Some r.0 c.in-Some.join (sym mine ∙ c.in-Some.is)) ∙ some_same r.0 j (sym r.1 ∙ at) in
    let number = c.hold_on.ensures ∙ ap (hold_at port) same in
    let boundary = c.boundary_on.ensures.value ∙ ap (boundary_at port) same in
    let logical : c.front_of.result.now ≡ front_of_port c.args.fronts.now c.args.node (other_port port) = c.front_of.ensures.value ∙ ap (front_of_port c.args.fronts.now c.args.node) c.other.ensures.value in
    let here = subst (λ (x : DeskView g.row.T.Denot). slice_get x.arrangements s ≡ Some (Some a)) (sym c.self.view_is) own in
    on_ok_by c.move_hold_at.result (λ m. (
      m.0,
      (λ i. record d { arrangements = m.1 i }) ∙ ap (λ (z : DeskView g.row.T.Denot). record z { arrangements = set z.arrangements s (Some m.0) }) c.self.view_is,
      subst (λ (z : ℕ × List g.row.T.Denot × List g.row.T.Denot). HasMoved times z.0 z.1 z.2 a m.0) (λ i. (number i, logical i, boundary i)) m.2,
    )) (c.move_hold_at.ensures.moved a here)

pub returns-clause-same : goal.returns-clause-same
returns-clause-same g c =
    let inside = c.self.inside in
    let d : DeskView g.row.T.Denot = record { gathered = inside.gathered.items; arrangements = inside.arrangements.items; joins = inside.joins.items; reductions = inside.reductions.items } in
    on_err_by c.move_hold_at.result (λ same. (λ i. record d { arrangements = same i }) ∙ c.self.view_is) c.move_hold_at.ensures.same
