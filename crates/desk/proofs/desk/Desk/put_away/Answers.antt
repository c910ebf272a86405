use Rattle.std.proofs.Common.{length, ap, sym, subst, ◌∙◌}
use Rattle.desk_laws.specs.Own.{DeskView, IsNextBatch}
use Rattle.desk.specs.Desks.{IsPutAway}
use Rattle.desk.proofs.PutAwayLemmas.{empty, none_put, put_away_by, there_to_put}
use Rattle.desk.proofs.desk.Desk.put_away.Goals as goal

pub insert_at-requires : goal.insert_at-requires
insert_at-requires g c =
    let times = g.T.PartialOrder.times in
    there_to_put times (record { gathered = c.self.inside.gathered.items; arrangements = c.self.inside.arrangements.items; joins = c.self.inside.joins.items; reductions = c.self.inside.reductions.items }) c.args.node c.args.batch
    (subst (λ (d : DeskView g.row.T.Denot). (p : _) × IsNextBatch times p d c.args.node c.args.batch) (sym c.self.view_is) c.requires.next)

pub returns-then-len-eq0 : goal.returns-then-len-eq0
returns-then-len-eq0 g c = record {
  away = λ p next.
      none_put g.T.PartialOrder.times p c.args.self.now c.args.node c.args.batch (empty _ (sym c.len.ensures.len ∙ c.if-len-eq0.true));
}

pub returns : goal.returns
returns g c = record {
  away = λ p next.
      let times = g.T.PartialOrder.times in
      let n = c.args.node in
      let batch = c.args.batch in
      let d : DeskView g.row.T.Denot = record { gathered = c.self.inside.gathered.items; arrangements = c.self.inside.arrangements.items; joins = c.self.inside.joins.items; reductions = c.self.inside.reductions.items } in
      let xs = c.insert_at.new.arrangements.items in
      subst (λ (e : DeskView g.row.T.Denot). IsPutAway times p n batch e (record d { arrangements = xs })) c.self.view_is
      (put_away_by times d n batch xs c.insert_at.ensures (λ e. c.if-len-eq0.false (c.len.ensures.len ∙ ap length e)) p
      (subst (λ (e : DeskView g.row.T.Denot). IsNextBatch times p e n batch) (sym c.self.view_is) next));
}
