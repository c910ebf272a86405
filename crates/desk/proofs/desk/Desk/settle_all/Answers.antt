use Rattle.std.proofs.Common.{rules, arith}
use Rattle.std.proofs.lemmas.Bool.{and_parts}
use Rattle.std.proofs.lemmas.Result.{err_from_is_err_and}
use Rattle.update.specs.Refusals.{IsMemoryOrOverflow}
use Rattle.desk.specs.Upkeep.{IsTooLargeOn}
use Rattle.desk.proofs.FollowLemmas.{large_on_before, leads_on_then, may_then}
use Rattle.desk.proofs.ResultLemmas.{if_err_at, memory_or}
use Rattle.desk.proofs.SettleLemmas.{settled_all, settled_more}
use Rattle.desk.proofs.desk.Desk.settle_all.Goals as goal

pub settle_node-requires : goal.settle_node-requires
settle_node-requires g c = (
  search rules,
  (
    search rules,
    (
      may_then g.T.PartialOrder.times c.args.plan.now c.args.fronts.now c.args.self.now c.loop-n.self c.loop-n.invariant.0 c.requires.may,
      omega (arith, c.loop-n-test.true, c.new.ensures, c.len-n-end.ensures.len),
    ),
  ),
)

pub returns-in_err-done-clause-leads : goal.returns-in_err-done-clause-leads
returns-in_err-done-clause-leads g c =
    leads_on_then g.T.PartialOrder.times c.args.plan.now c.args.fronts.now c.args.self.now c.loop-n.self c.settle_node.new.self c.loop-n.invariant.0 c.settle_node.ensures.leads

pub returns-in_err-done-clause-followed : goal.returns-in_err-done-clause-followed
returns-in_err-done-clause-followed g c followed = c.settle_node.ensures.followed (c.loop-n.invariant.2 followed)

pub returns-in_err-done-clause-refused : goal.returns-in_err-done-clause-refused
returns-in_err-done-clause-refused g c =
    let times = g.T.PartialOrder.times in
    let plan = c.args.plan.now in
    let fronts = c.args.fronts.now in
    let p = err_from_is_err_and c.from_residual.result c.from_residual.ensures.1 in
    if_err_at c.from_residual.result (IsMemoryOrOverflow (IsTooLargeOn times plan fronts g.T.Ord.cmp c.args.self.now)) c.in_err-done.field-0.0 p.0 p.1 (cc p.2)
    (memory_or (large_on_before times plan fronts c.args.self.now c.loop-n.self c.loop-n.invariant.0 g.T.Ord.cmp) c.in_err-done.ensures.refused)

pub loop-n-preserved : goal.loop-n-preserved
loop-n-preserved g c =
    let times = g.T.PartialOrder.times in
    let plan = c.args.plan.now in
    let fronts = c.args.fronts.now in (
      leads_on_then times plan fronts c.args.self.now c.loop-n.self c.settle_node.new.self c.loop-n.invariant.0 c.settle_node.ensures.leads,
      (λ both.
          let parts = and_parts c.in_ok-done.field-0 c.loop-n.done both in
          settled_more times plan fronts c.loop-n.self c.settle_node.new.self c.loop-n.n c.new.result c.new.ensures (c.loop-n.invariant.1 parts.1) c.settle_node.ensures.others (c.in_ok-done.ensures.settled parts.0)),
      (λ followed. c.settle_node.ensures.followed (c.loop-n.invariant.2 followed)),
    )

pub returns-clause-settled : goal.returns-clause-settled
returns-clause-settled g c done =
    settled_all g.T.PartialOrder.times c.args.plan.now c.args.fronts.now c.loop-n.self c.loop-n.n (omega (arith, c.loop-n-test.false, c.loop-n.auto.n-end, c.len-n-end.ensures.len)) (c.loop-n.invariant.1 done)
