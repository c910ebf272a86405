use Rattle.std.proofs.Common.{◌≡◌, ◌++◌, ◌∷◌, [], List, true, sym, ◌∙◌, ap, subst}
use Rattle.levels.specs.Levels.{LevelsState, UnderwayState}
use Rattle.spine.specs.Spines.{SpineState, AreEarlier, IsWorkedOn, is_barred}
use Rattle.spine.proofs.StepLemmas.{over, given_up, earlier_front, last_same}
use Rattle.spine.proofs.MergeLemmas.{nothing_worked, more_worked_on}
use Rattle.spine.proofs.spine.Spine.give_up_barred.Goals as goal

pub loop-self-init : goal.loop-self-init
loop-self-init g c = nothing_worked g.T.PartialOrder.times g.met.T.PartialOrder.order c.args.self.now

pub invariant_of-self : goal.invariant_of-self
invariant_of-self g c =
    let times = g.T.PartialOrder.times in
    let since = c.self.inside.since.items in
    let w = c.give_up.ensures in
    let us = ap (λ (l : LevelsState g.row.T.Denot). l.underway) w.is in (
      c.self.invariant.0,
      c.self.invariant.1,
      subst (AreEarlier times since) (sym us) (earlier_front times since w.older w.newest (subst (AreEarlier times since) w.was c.self.invariant.2)),
    )

pub loop-self-preserved : goal.loop-self-preserved
loop-self-preserved g c =
    let times = g.T.PartialOrder.times in
    let o = g.met.T.PartialOrder.order in
    let since = c.self.inside.since.items in
    let holds = c.self.inside.holds.items in
    let l = c.self.inside.levels in
    let m = c.give_up.new.self in
    let y = c.is_newest_barred.ensures.yes c.loop-self-test.true in
    let barred : (older : List (UnderwayState g.row.T.Denot)) (u : UnderwayState g.row.T.Denot) → l.underway ≡ older ++ u ∷ [] → is_barred times holds l.list.batches u.alone u.number ≡ true = λ older u was.
    let same = last_same older y.0 u y.1 (sym was ∙ ap (λ (s : SpineState g.row.T.Denot). s.progress.underway) c.self.view_is ∙ y.2) in
    let here : is_barred times holds l.list.batches u.alone u.number ≡ is_barred times c.loop-self.self.holds c.loop-self.self.list.batches y.1.alone y.1.number = λ k. is_barred times (c.self.view_is k).holds (c.self.view_is k).list.batches (same k).alone (same k).number in
    here ∙ y.3 in
    let step = subst (λ (s : SpineState g.row.T.Denot). IsWorkedOn times 0 s (over times o since holds m c.self.inside.copied)) c.self.view_is (given_up times o since holds l m c.self.inside.copied c.give_up.ensures barred) in
    more_worked_on times 0 0 c.args.self.now c.loop-self.self (over times o since holds m c.self.inside.copied) c.loop-self.invariant step
