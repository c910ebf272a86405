use Rattle.std.proofs.Common.{◌∷◌, length, sym, ap, subst, ◌∙◌, IsTrue}
use Rattle.std.specs.List.{filter}
use Rattle.std.specs.Prelude.{Contains}
use Rattle.progress.specs.declared.counted.Counted.{Counted}
use Rattle.progress.specs.declared.place.Place.{Place}
use Rattle.progress.specs.Kept.{marks_of}
use Rattle.progress.specs.Tallies.{AreMarksBelow, SameCounts, TallyState}
use Rattle.progress.proofs.CurrentLemmas.{moved_current, forgotten_marks}
use Rattle.progress.proofs.tally.Tally.downgrade.Goals as goal

pub replace-requires : goal.replace-requires
replace-requires g c =
    let seen = ap (λ (s : TallyState g.row.T.Denot). s.items) c.self.view_is in
    let x : Counted g.row.T.Denot = record { place = c.capability.inside.place; time = c.capability.inside.time } in
    subst (λ xs. Contains xs x) (sym seen) (subst (λ y. Contains c.args.self.now.items y) (sym c.capability.view_is) c.requires.counted)

pub returns-clause-counted : goal.returns-clause-counted
returns-clause-counted g c test =
    let seen = ap (λ (s : TallyState g.row.T.Denot). s.items) c.self.view_is in
    let left = c.replace.new.self in
    let moved : Counted g.row.T.Denot = record { place = c.capability.inside.place; time = c.args.later } in
    ap (λ (w : Counted g.row.T.Denot). length (filter test (w ∷ left))) (sym c.capability.view_is)
    ∙ (c.replace.ensures test ∙ (λ i. length (filter test (moved ∷ seen i))))

pub returns-clause-below : goal.returns-clause-below
returns-clause-below g c =
    let new = c.forget.new.self in
    subst (λ (x : Counted g.row.T.Denot). AreMarksBelow c.args.self.now.nodes x.place c.args.self.now.marked (marks_of new)) c.capability.view_is
    (subst (λ (s : TallyState g.row.T.Denot). AreMarksBelow s.nodes c.capability.inside.place s.marked (marks_of new)) c.self.view_is
    (forgotten_marks g.T.PartialOrder.times c.self.inside.graph c.capability.inside.place c.capability.inside.time c.self.inside.table new c.forget.ensures))

pub invariant_of-self : goal.invariant_of-self
invariant_of-self g c =
    let times = g.T.PartialOrder.times in
    let nodes = c.self.inside.graph in
    let items = c.self.inside.items in
    let ks = c.self.inside.table in
    let left = c.replace.new.self in
    let new = c.forget.new.self in
    let seen = ap (λ (s : TallyState g.row.T.Denot). s.items) c.self.view_is in
    let item = λ (p : Place). let x : Counted g.row.T.Denot = record { place = p; time = c.capability.inside.time } in x in
    let moved = λ (p : Place). let x : Counted g.row.T.Denot = record { place = p; time = c.args.later } in x in
    let place = c.capability.inside.place in
    let onward = subst (λ (x : Counted g.row.T.Denot). IsTrue (times.below x.time c.args.later)) (sym c.capability.view_is) c.requires.later in
    let there : Contains items (item place) = subst (λ xs. Contains xs (item place)) (sym seen) (subst (λ x. Contains c.args.self.now.items x) (sym c.capability.view_is) c.requires.counted) in
    let same : SameCounts (item place ∷ left) (moved place ∷ items) = c.replace.ensures in
    record {
      plan = c.self.invariant.plan;
      len = c.forget.ensures.len ∙ c.self.invariant.len;
      current = moved_current times nodes place c.capability.inside.time ks new c.forget.ensures c.args.later items left there onward same c.self.invariant.current;
    }
