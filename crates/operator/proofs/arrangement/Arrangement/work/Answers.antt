use Rattle.std.proofs.Common.{sym, ◌∙◌, ap, subst}
use Rattle.spine.specs.Spines.{SpineState}
use Rattle.operator.specs.Arrangements.{ArrangementState, IsOpen, upper_of}
use Rattle.operator.proofs.ArrangementLemmas.{arrangement_worked, upper_worked}
use Rattle.operator.proofs.OpenLemmas.{open_worked}
use Rattle.operator.proofs.arrangement.Arrangement.work.Goals as goal

pub invariant_of-self : goal.invariant_of-self
invariant_of-self g c =
    let times = g.T.PartialOrder.times in
    let a : ArrangementState g.row.T.Denot = record { width = c.self.inside.width; spine = c.self.inside.spine; waiting = c.self.inside.waiting.updates; holds = c.self.inside.holds.items } in
    let worked = c.work-done.ensures.worked in (
      arrangement_worked times g.met.T.PartialOrder.order worked.0 worked.1 a c.work-done.new.self worked.3 c.self.invariant.0,
      c.self.invariant.1 ∙ sym (ap (λ (x : SpineState g.row.T.Denot). x.list.worker) worked.3.kept),
      c.self.invariant.2 ∙ sym (ap (λ (x : SpineState g.row.T.Denot). x.list.node) worked.3.kept),
    )

pub returns-clause-upper : goal.returns-clause-upper
returns-clause-upper g c =
    let worked = c.work-done.ensures.worked in
    upper_worked g.T.PartialOrder.times g.met.T.PartialOrder.order worked.0 worked.1 c.self.inside.spine c.work-done.new.self worked.3
    ∙ ap (λ (a : ArrangementState g.row.T.Denot). upper_of a.spine) c.self.view_is

pub returns-clause-open : goal.returns-clause-open
returns-clause-open g c h is =
    let times = g.T.PartialOrder.times in
    let worked = c.work-done.ensures.worked in
    open_worked times worked.0 worked.1 c.self.inside.spine c.work-done.new.self h worked.3
    (subst (λ (a : ArrangementState g.row.T.Denot). IsOpen times a.spine h) (sym c.self.view_is) is)
