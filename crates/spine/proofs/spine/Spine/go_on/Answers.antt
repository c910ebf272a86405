use Rattle.std.proofs.Common.{List, suc, inl, inr, ⊎_elim, sym, ◌∙◌, ap, subst, arith}
use Rattle.std.proofs.lemmas.Result.{err_from_is_err_and}
use Rattle.levels.specs.Levels.{LevelsState, UnderwayState}
use Rattle.spine.specs.Spines.{SpineState, AreEarlier, IsReady, IsWorked, IsWorkedOn}
use Rattle.spine.proofs.StepLemmas.{over, gone, gone_on, put, large_newest, earlier_front, earlier_on}
use Rattle.spine.proofs.spine.Spine.go_on.Goals as goal

pub invariant_of-self : goal.invariant_of-self
invariant_of-self g c =
    let times = g.T.PartialOrder.times in
    let w = c.in_err-step.ensures.gone in
    let us = ap (λ (l : LevelsState g.row.T.Denot). l.underway) w.is in (
      c.self.invariant.0,
      c.self.invariant.1,
      subst (AreEarlier times c.self.inside.since.items) (sym us) (earlier_front times c.self.inside.since.items w.older w.newest (subst (AreEarlier times c.self.inside.since.items) w.was c.self.invariant.2)),
    )

pub invariant_of-self-2 : goal.invariant_of-self-2
invariant_of-self-2 g c =
    let times = g.T.PartialOrder.times in
    let since = c.self.inside.since.items in
    let of = λ (us : List (UnderwayState g.row.T.Denot)). AreEarlier times since us in (
      c.self.invariant.0,
      c.self.invariant.1,
      ⊎_elim
          (λ h. subst of (sym (ap (λ (l : LevelsState g.row.T.Denot). l.underway) h.2.is)) (earlier_on times since h.2.older h.2.before h.2.after h.2.same (subst of h.2.was c.self.invariant.2)))
          (λ h. subst of (sym (ap (λ (l : LevelsState g.row.T.Denot). l.underway) h.1.is)) (earlier_front times since h.1.older h.1.newest (subst of h.1.was c.self.invariant.2)))
          c.in_ok-step.ensures.on,
    )

pub returns-in_err-step-clause-gone : goal.returns-in_err-step-clause-gone
returns-in_err-step-clause-gone g c =
    let times = g.T.PartialOrder.times in
    let p = err_from_is_err_and c.from_residual.result c.from_residual.ensures.1 in
    let lost = gone times g.met.T.PartialOrder.order c.self.inside.since.items c.self.inside.holds.items c.self.inside.levels c.go_on.new.self c.self.inside.copied c.in_err-step.ensures.gone in
    rw p.1 (lost.0, subst (λ (s : SpineState g.row.T.Denot). IsWorked times 0 lost.0 s (over times g.met.T.PartialOrder.order c.self.inside.since.items c.self.inside.holds.items c.go_on.new.self c.self.inside.copied)) c.self.view_is lost.1)

pub returns-in_err-step-clause-refused : goal.returns-in_err-step-clause-refused
returns-in_err-step-clause-refused g c =
    let times = g.T.PartialOrder.times in
    let p = err_from_is_err_and c.from_residual.result c.from_residual.ensures.1 in
    let same = ap (λ (l : LevelsState g.row.T.Denot). l.list.batches) c.in_err-step.ensures.gone.is in
    rw p.1 (⊎_elim (λ e. inl (p.2 ∙ e)) (λ r. inr (p.2 ∙ r.0, rw same (large_newest times g.met.T.PartialOrder.order c.self.inside.since.items c.self.inside.holds.items c.self.inside.levels c.self.invariant.2 r.1)))
    c.in_err-step.ensures.refused)

pub returns-clause-worked : goal.returns-clause-worked
returns-clause-worked g c =
    let times = g.T.PartialOrder.times in
    let o = g.met.T.PartialOrder.order in
    let since = c.self.inside.since.items in
    let holds = c.self.inside.holds.items in
    let l = c.self.inside.levels in
    let m = c.go_on.new.self in
    let old = c.self.inside.copied in
    let new = c.saturating_add-self-inside.result in
    let counted = c.saturating_add-self-inside.ensures in
    let s = over times o since holds l old in
    let ready = subst (IsReady times) (sym c.self.view_is) c.requires.ready in
    ⊎_elim
    (λ h. (
      c.args.fuel,
      c.requires.some,
      omega (arith, h.0),
      subst (λ (x : SpineState g.row.T.Denot). IsWorkedOn times c.args.fuel x (over times o since holds m new)) c.self.view_is (gone_on times o since holds l m old new c.args.fuel ready h.2 (λ k. omega (arith, counted, h.1))),
    ))
    (λ h. (
      suc c.in_ok-step.step.copies,
      omega arith,
      h.0,
      subst (λ (x : SpineState g.row.T.Denot). IsWorkedOn times (suc c.in_ok-step.step.copies) x (over times o since holds m new)) c.self.view_is
          (put times o since holds g.T.Ord.cmp l m old new c.args.fuel c.in_ok-step.step.left c.in_ok-step.step.copies c.known.ensures c.self.invariant.2 ready h.1 h.0 (λ k. omega (arith, counted))),
    ))
    c.in_ok-step.ensures.on
