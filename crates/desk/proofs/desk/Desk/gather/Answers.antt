use Rattle.std.proofs.Common.{◌<◌, List, length, set, get_or, sym, subst, ap, ◌∙◌}
use Rattle.update.specs.declared.change.Update.{Update}
use Rattle.linear.specs.Applied.{linear_output}
use Rattle.desk_laws.specs.Own.{DeskView}
use Rattle.desk.specs.Desks.{IsLaidIn}
use Rattle.desk.proofs.DeskLemmas.{gathered_after}
use Rattle.desk.proofs.PlaceLemmas.{set_same}
use Rattle.desk.proofs.ResultLemmas.{on_err_always}
use Rattle.desk.proofs.desk.Desk.gather.Goals as goal

pub returns-in_err-take_in-clause-same : goal.returns-in_err-take_in-clause-same
returns-in_err-take_in-clause-same g c =
    let inside = c.self.inside in
    let kept = set_same inside.gathered.items c.number.result c.take_in.new.self (c.in_err-take_in.ensures.same ∙ (c.index_mut.ensures.value ∙ ap (λ us. get_or inside.gathered.items c.number.result us) (sym c.in_err-take_in.ensures.same))) in
    on_err_always c.from_residual.result
    (ap (λ (gathered : List (List (Update g.row.T.Denot))). record {
      gathered = gathered;
      arrangements = inside.arrangements.items;
      joins = inside.joins.items;
      reductions = inside.reductions.items;
    }) kept ∙ c.self.view_is)

pub returns-clause-laid : goal.returns-clause-laid
returns-clause-laid g c p at =
    let inside = c.self.inside in
    let times = g.T.PartialOrder.times in
    let d : DeskView g.row.T.Denot = record {
      gathered = inside.gathered.items;
      arrangements = inside.arrangements.items;
      joins = inside.joins.items;
      reductions = inside.reductions.items;
    } in
    let made = linear_output c.args.operator.now c.args.list.now in
    let within = subst (λ (x : DeskView g.row.T.Denot). c.args.node < length x.gathered) (sym c.self.view_is) c.requires.place in
    subst (λ x. IsLaidIn times p c.args.node made x (record d { gathered = set d.gathered c.number.result c.take_in.new.self })) c.self.view_is
    (gathered_after times p c.args.node d c.args.operator.now at c.requires.plain c.number.result c.number.ensures within c.index_mut.result.now c.take_in.new.self made c.index_mut.ensures.value c.in_ok-take_in.ensures.more)
