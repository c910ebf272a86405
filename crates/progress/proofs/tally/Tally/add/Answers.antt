use Rattle.std.proofs.Common.{◌∷◌, ap, sym, subst, ◌∙◌}
use Rattle.progress.specs.declared.counted.Counted.{Counted}
use Rattle.progress.specs.Kept.{AreCurrent, marks_of}
use Rattle.progress.specs.Tallies.{AreMarksBelow, TallyState}
use Rattle.progress.proofs.CurrentLemmas.{current_same, inserted_current, inserted_marks, undone_current, undone_marks}
use Rattle.progress.proofs.tally.Tally.add.Goals as goal

pub invariant_of-self : goal.invariant_of-self
invariant_of-self g c =
    let times = g.T.PartialOrder.times in
    let nodes = c.self.inside.graph in
    let old = c.self.inside.table in
    let mid = c.count.new.table in
    let new = c.mark_below.new.self in
    record {
      plan = c.self.invariant.plan;
      len = c.mark_below.ensures.len ∙ (c.count.ensures.spared.len ∙ c.self.invariant.len);
      current = subst (λ xs. AreCurrent times nodes xs new) (sym c.in-Err.ensures.unchanged)
          (undone_current nodes c.args.place old mid new c.count.ensures.spared c.mark_below.ensures times c.self.inside.items c.self.invariant.current);
    }

pub returns-in-Err-clause-below : goal.returns-in-Err-clause-below
returns-in-Err-clause-below g c =
    let new = c.mark_below.new.self in
    subst (λ (s : TallyState g.row.T.Denot). AreMarksBelow s.nodes c.args.place s.marked (marks_of new)) c.self.view_is
    (undone_marks c.self.inside.graph c.args.place c.self.inside.table c.count.new.table new c.count.ensures.spared c.mark_below.ensures)

pub invariant_of-self-in_default : goal.invariant_of-self-in_default
invariant_of-self-in_default g c =
    let times = g.T.PartialOrder.times in
    let nodes = c.self.inside.graph in
    let items = c.self.inside.items in
    let new = c.count.new.table in
    let x : Counted g.row.T.Denot = record { place = c.args.place; time = c.args.t } in
    record {
      plan = c.self.invariant.plan;
      len = c.in_default.ensures.inserted.len ∙ c.self.invariant.len;
      current = current_same times nodes new (x ∷ items) c.count.new.items (λ test. sym (c.in_default.ensures.counted test))
          (inserted_current times nodes c.args.place c.args.t c.self.inside.table new items c.in_default.ensures.inserted c.self.invariant.current);
    }

pub returns-clause-marked : goal.returns-clause-marked
returns-clause-marked g c =
    inserted_marks g.T.PartialOrder.times c.self.inside.graph c.args.place c.args.t c.self.inside.table c.count.new.table c.in_default.ensures.inserted
    ∙ ap (λ (s : TallyState g.row.T.Denot). s.marked) c.self.view_is
