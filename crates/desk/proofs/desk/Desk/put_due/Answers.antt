use Rattle.std.proofs.Common.{slice_get, sym, subst, ◌∙◌}
use Rattle.operator_laws.specs.GatheredUpdates.{IsHeldFor}
use Rattle.desk_laws.specs.Own.{due_in}
use Rattle.desk.proofs.ResultLemmas.{on_ok_by}
use Rattle.desk.proofs.NeedLemmas.{both_put, nothing_put, other_put, other_source, same_source}
use Rattle.desk.proofs.desk.Desk.put_due.Goals as goal

pub returns-in_default-clause-beyond : goal.returns-in_default-clause-beyond
returns-in_default-clause-beyond g c =
    nothing_put g.T.PartialOrder.times c.args.fronts.now c.args.self.now.reductions c.args.source c.args.node _ c.args.level.now (λ kind from e at. c.in_default.not-Reduce kind from (c.node.ensures ∙ e))

pub returns-then-ne-clause-beyond : goal.returns-then-ne-clause-beyond
returns-then-ne-clause-beyond g c =
    other_put g.T.PartialOrder.times c.args.fronts.now c.args.self.now.reductions c.args.source c.args.node _ c.in-Reduce.kind c.in-Reduce.from (sym c.node.ensures ∙ c.in-Reduce.is)
    (other_source c.in-Reduce.from c.args.source c.ne.result c.ne.ensures c.if-ne.true) c.args.level.now

pub returns-clause-beyond : goal.returns-clause-beyond
returns-clause-beyond g c =
    let times = g.T.PartialOrder.times in
    let reductions = c.args.self.now.reductions in
    let held = subst (λ ts. IsHeldFor times ts (due_in (slice_get reductions c.args.node))) (sym c.as_slice.ensures.value) c.in_ok-held.ensures.held in
    let from = same_source c.in-Reduce.from c.args.source c.ne.result c.ne.ensures c.if-ne.false in
    on_ok_by c.put_in-2.result
    (both_put times c.args.fronts.now reductions c.args.source g.met.T.PartialOrder.order c.args.node _ c.in-Reduce.kind c.in-Reduce.from (sym c.node.ensures ∙ c.in-Reduce.is) from c.args.level.now c.put_in.new.level c.put_in-2.new.level c.as_slice.result.now c.front_of.result.now held c.front_of.ensures.value c.in_ok-put_in.ensures.beyond) c.put_in-2.ensures.beyond
