use Rattle.std.proofs.Common.{false, true, sym, ◌∙◌, ap, subst}
use Rattle.levels.specs.Levels.{LevelsState}
use Rattle.spine.specs.Spines.{SpineState, AreEarlier, IsWorkedOn}
use Rattle.spine.proofs.StepLemmas.{begun, earlier_begun, over}
use Rattle.spine.proofs.spine.Spine.begin_at.Goals as goal

pub invariant_of-self : goal.invariant_of-self
invariant_of-self g c =
    let b = c.in_ok-begin_one.ensures.begun in
    let us = ap (λ (l : LevelsState g.row.T.Denot). l.underway) b.1 in
    let since = b.2.since ∙ c.as_slice-since.ensures.value in (
      c.self.invariant.0,
      c.self.invariant.1,
      subst (AreEarlier g.T.PartialOrder.times c.self.inside.since.items) (sym us) (earlier_begun g.met.T.PartialOrder.order c.self.inside.since.items c.self.inside.levels.underway b.0 since c.self.invariant.2),
    )

pub invariant_of-self-in-Continue-branch-2 : goal.invariant_of-self-in-Continue-branch-2
invariant_of-self-in-Continue-branch-2 g c =
    let b = c.in_ok-begin_two.ensures.begun in
    let us = ap (λ (l : LevelsState g.row.T.Denot). l.underway) b.1 in
    let since = b.2.since ∙ c.as_slice-since.ensures.value in (
      c.self.invariant.0,
      c.self.invariant.1,
      subst (AreEarlier g.T.PartialOrder.times c.self.inside.since.items) (sym us) (earlier_begun g.met.T.PartialOrder.order c.self.inside.since.items c.self.inside.levels.underway b.0 since c.self.invariant.2),
    )

pub returns-in_ok-begin_one-clause-worked : goal.returns-in_ok-begin_one-clause-worked
returns-in_ok-begin_one-clause-worked g c =
    let times = g.T.PartialOrder.times in
    let b = c.in_ok-begin_one.ensures.begun in
    subst (λ (s : SpineState g.row.T.Denot). IsWorkedOn times 0 s (over times g.met.T.PartialOrder.order c.self.inside.since.items c.self.inside.holds.items c.begin_one.new.self c.self.inside.copied)) c.self.view_is
    (begun times g.met.T.PartialOrder.order c.self.inside.since.items c.self.inside.holds.items c.self.inside.levels c.begin_one.new.self c.self.inside.copied c.args.place.number true _ b.0 b.1 b.2)

pub returns-in_ok-begin_two-clause-worked : goal.returns-in_ok-begin_two-clause-worked
returns-in_ok-begin_two-clause-worked g c =
    let times = g.T.PartialOrder.times in
    let b = c.in_ok-begin_two.ensures.begun in
    subst (λ (s : SpineState g.row.T.Denot). IsWorkedOn times 0 s (over times g.met.T.PartialOrder.order c.self.inside.since.items c.self.inside.holds.items c.begin_two.new.self c.self.inside.copied)) c.self.view_is
    (begun times g.met.T.PartialOrder.order c.self.inside.since.items c.self.inside.holds.items c.self.inside.levels c.begin_two.new.self c.self.inside.copied c.args.place.number false _ b.0 b.1 b.2)
