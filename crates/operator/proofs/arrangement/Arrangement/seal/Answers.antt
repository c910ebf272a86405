use Rattle.std.proofs.Common.{List, IsTrue, sym, ◌∙◌, ap, subst}
use Rattle.std.specs.Prelude.{eqb, length}
use Rattle.antichain.proofs.Lists.{all_filter}
use Rattle.update.specs.declared.change.Update.{Update}
use Rattle.update.specs.Updates.{total_where}
use Rattle.batch.specs.Descriptions.{BuilderState, DescriptionState}
use Rattle.batch.specs.Intervals.{passed_updates}
use Rattle.operator.specs.Arrangements.{ArrangementState, IsArrangement, rows_have, upper_of}
use Rattle.operator.proofs.ArrangementLemmas.{arrangement_sealed}
use Rattle.operator.proofs.arrangement.Arrangement.seal.Goals as goal

pub invariant_of-self-2 : goal.invariant_of-self-2
invariant_of-self-2 g c =
    let times = g.T.PartialOrder.times in
    let a : ArrangementState g.row.T.Denot = record { width = c.self.inside.width; spine = c.self.inside.spine; waiting = c.self.inside.waiting.updates; holds = c.self.inside.holds.items } in
    let rest = c.in_ok-batch.ensures.rest in (
      subst (λ (us : List (Update g.row.T.Denot)). IsArrangement times (record a { waiting = us })) (sym (ap (λ (b : BuilderState g.row.T.Denot). b.updates) rest))
          (arrangement_sealed times g.met.T.PartialOrder.order a c.args.upper.now c.self.invariant.0),
      ap (λ (b : BuilderState g.row.T.Denot). b.worker) rest ∙ c.self.invariant.1,
      ap (λ (b : BuilderState g.row.T.Denot). b.node) rest ∙ c.self.invariant.2,
    )

pub returns-clause-continues : goal.returns-clause-continues
returns-clause-continues g c =
    let described = c.in_ok-batch.ensures.described in
    let view = c.self.view_is in (
      ap (λ (d : DescriptionState g.row.T.Denot). d.worker) described ∙ c.self.invariant.1 ∙ ap (λ (x : ArrangementState g.row.T.Denot). x.spine.list.worker) view,
      ap (λ (d : DescriptionState g.row.T.Denot). d.node) described ∙ c.self.invariant.2 ∙ ap (λ (x : ArrangementState g.row.T.Denot). x.spine.list.node) view,
      ap (λ (d : DescriptionState g.row.T.Denot). d.lower) described ∙ c.upper.ensures.value ∙ ap (λ (x : ArrangementState g.row.T.Denot). upper_of x.spine) view,
    )

pub returns-clause-totals : goal.returns-clause-totals
returns-clause-totals g c p =
    c.in_ok-batch.ensures.totals p ∙ ap (λ (x : ArrangementState g.row.T.Denot). total_where p (passed_updates g.T.PartialOrder.times c.args.upper.now x.waiting)) c.self.view_is

pub returns-clause-rows : goal.returns-clause-rows
returns-clause-rows g c =
    subst (λ (x : ArrangementState g.row.T.Denot). IsTrue (rows_have x.width c.in_ok-batch.batch.updates)) c.self.view_is
    (c.in_ok-batch.ensures.among (λ row t. eqb (length row) c.self.inside.width) (all_filter _ _ c.self.inside.waiting.updates c.self.invariant.0.waiting_rows))

pub returns-clause-times : goal.returns-clause-times
returns-clause-times g c =
    c.in_ok-batch.ensures.among (λ row t. g.T.PartialOrder.times.below g.T.PartialOrder.times.least t) (all_filter _ _ c.self.inside.waiting.updates c.self.invariant.0.waiting_times)
