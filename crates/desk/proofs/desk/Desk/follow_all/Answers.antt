use Rattle.std.proofs.Common.{rules, arith}
use Rattle.desk.proofs.FollowLemmas.{followed_more, leads_on_then, may_then}
use Rattle.desk.proofs.desk.Desk.follow_all.Goals as goal

pub follow_join-requires : goal.follow_join-requires
follow_join-requires g c = (
  search rules,
  (
    search rules,
    (
      may_then g.T.PartialOrder.times c.args.plan.now c.args.fronts.now c.args.self.now c.loop-n.self c.loop-n.invariant.0 c.requires.may,
      omega (arith, c.loop-n-test.true, c.new.ensures, c.len-n-end.ensures.len),
    ),
  ),
)

pub returns-in_err-follow_join-clause-leads : goal.returns-in_err-follow_join-clause-leads
returns-in_err-follow_join-clause-leads g c =
    leads_on_then g.T.PartialOrder.times c.args.plan.now c.args.fronts.now c.args.self.now c.loop-n.self c.follow_join.new.self c.loop-n.invariant.0 c.follow_join.ensures.leads

pub loop-n-preserved : goal.loop-n-preserved
loop-n-preserved g c =
    let times = g.T.PartialOrder.times in
    let plan = c.args.plan.now in
    let fronts = c.args.fronts.now in (
      leads_on_then times plan fronts c.args.self.now c.loop-n.self c.follow_join.new.self c.loop-n.invariant.0 c.follow_join.ensures.leads,
      followed_more times plan fronts c.loop-n.self c.follow_join.new.self c.loop-n.n c.new.result c.new.ensures c.loop-n.invariant.1 c.follow_join.ensures.stays c.in_ok-follow_join.ensures.here,
    )
