use Rattle.std.proofs.Common.{rules, arith}
use Rattle.desk.proofs.FollowLemmas.{here_followed, leads_followed, still_followed, there_to_follow}
use Rattle.desk.proofs.desk.Desk.follow_at.Goals as goal

pub follow-requires : goal.follow-requires
follow-requires g c =
    let few = c.known.ensures.few in
    let within = c.requires.reads.1.within in (
      search rules,
      (
        search rules,
        (
          there_to_follow g.T.PartialOrder.times c.args.plan.now c.args.fronts.now g.met.T.PartialOrder.order c.args.self.now c.args.node c.args.port c.args.source c.requires.may c.requires.reads,
          omega (arith, few, within),
        ),
      ),
    )

pub returns-clause-leads : goal.returns-clause-leads
returns-clause-leads g c =
    let reads = c.requires.reads in
    leads_followed g.T.PartialOrder.times c.args.plan.now c.args.fronts.now g.met.T.PartialOrder.order c.args.self.now c.args.node c.args.port c.args.source c.requires.may reads c.follow.new.self c.follow.result
    (c.follow.ensures.moved reads.0 reads.1.there) c.follow.ensures.same

pub returns-clause-here : goal.returns-clause-here
returns-clause-here g c =
    let reads = c.requires.reads in
    here_followed g.T.PartialOrder.times c.args.plan.now c.args.fronts.now g.met.T.PartialOrder.order c.args.self.now c.args.node c.args.port c.args.source c.requires.may reads c.follow.new.self c.follow.result
    (c.follow.ensures.moved reads.0 reads.1.there)

pub returns-clause-stays : goal.returns-clause-stays
returns-clause-stays g c =
    let reads = c.requires.reads in
    still_followed g.T.PartialOrder.times c.args.plan.now c.args.fronts.now g.met.T.PartialOrder.order c.args.self.now c.args.node c.args.port c.args.source c.requires.may reads c.follow.new.self c.follow.result
    (c.follow.ensures.moved reads.0 reads.1.there) c.follow.ensures.same
