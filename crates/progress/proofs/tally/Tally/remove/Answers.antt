use Rattle.std.proofs.Common.{◌∷◌, length, sym, ap, subst, ◌∙◌}
use Rattle.std.specs.List.{filter}
use Rattle.std.specs.Prelude.{Contains}
use Rattle.progress.specs.declared.counted.Counted.{Counted}
use Rattle.progress.specs.Kept.{marks_of}
use Rattle.progress.specs.Tallies.{AreMarksBelow, SameCounts, TallyState}
use Rattle.progress.proofs.CurrentLemmas.{current_same, gone_current, forgotten_marks}
use Rattle.progress.proofs.tally.Tally.remove.Goals as goal

pub remove-requires : goal.remove-requires
remove-requires g c =
    let seen = ap (λ (s : TallyState g.row.T.Denot). s.items) c.self.view_is in
    let x : Counted g.row.T.Denot = record { place = c.args.place.now; time = c.args.t.now } in
    subst (λ xs. Contains xs x) (sym seen) c.requires

pub returns-clause-counted : goal.returns-clause-counted
returns-clause-counted g c test =
    c.remove.ensures test ∙ ap (λ xs. length (filter test xs)) (ap (λ (s : TallyState g.row.T.Denot). s.items) c.self.view_is)

pub returns-clause-below : goal.returns-clause-below
returns-clause-below g c =
    let new = c.forget.new.self in
    subst (λ (s : TallyState g.row.T.Denot). AreMarksBelow s.nodes c.args.place.now s.marked (marks_of new)) c.self.view_is
    (forgotten_marks g.T.PartialOrder.times c.self.inside.graph c.args.place.now c.args.t.now c.self.inside.table new c.forget.ensures)

pub invariant_of-self : goal.invariant_of-self
invariant_of-self g c =
    let times = g.T.PartialOrder.times in
    let nodes = c.self.inside.graph in
    let ks = c.self.inside.table in
    let left = c.remove.new.self in
    let x : Counted g.row.T.Denot = record { place = c.args.place.now; time = c.args.t.now } in
    let counted : SameCounts (x ∷ left) c.self.inside.items = c.remove.ensures in
    record {
      plan = c.self.invariant.plan;
      len = c.forget.ensures.len ∙ c.self.invariant.len;
      current = gone_current times nodes c.args.place.now c.args.t.now ks c.forget.new.self c.forget.ensures left
          (current_same times nodes ks c.self.inside.items (x ∷ left) (λ test. sym (counted test)) c.self.invariant.current);
    }
