use Rattle.std.proofs.Common.{rules, sym, ◌∙◌}
use Rattle.desk.specs.Upkeep.{MayTidy}
use Rattle.desk.proofs.FollowLemmas.{both_followed, leads_on_then, may_then, reads_left, reads_right}
use Rattle.desk.proofs.ResultLemmas.{on_ok_by}
use Rattle.desk.proofs.desk.Desk.follow_join.Goals as goal

pub follow_at-requires : goal.follow_at-requires
follow_at-requires g c =
    let at = sym c.node.ensures ∙ c.in-Join.is in (
      search rules,
      (
        search rules,
        (c.requires.may, reads_left g.T.PartialOrder.times c.args.plan.now c.args.fronts.now c.args.self.now c.args.node c.requires.within c.requires.may c.in-Join.left c.in-Join.right at),
      ),
    )

pub follow_at-requires-in-Join : goal.follow_at-requires-in-Join
follow_at-requires-in-Join g c =
    let times = g.T.PartialOrder.times in
    let plan = c.args.plan.now in
    let fronts = c.args.fronts.now in
    let at = sym c.node.ensures ∙ c.in-Join.is in
    let may : MayTidy times plan fronts c.follow_at.new.self = may_then times plan fronts c.args.self.now c.follow_at.new.self c.follow_at.ensures.leads c.requires.may in
    (search rules, (search rules, (may, reads_right times plan fronts c.follow_at.new.self c.args.node c.requires.within may c.in-Join.left c.in-Join.right at)))

pub returns-in_ok-follow_at-in-Join-clause-leads : goal.returns-in_ok-follow_at-in-Join-clause-leads
returns-in_ok-follow_at-in-Join-clause-leads g c =
    leads_on_then g.T.PartialOrder.times c.args.plan.now c.args.fronts.now c.args.self.now c.follow_at.new.self c.follow_at-in-Join.new.self c.follow_at.ensures.leads c.follow_at-in-Join.ensures.leads

pub returns-in_ok-follow_at-in-Join-clause-here : goal.returns-in_ok-follow_at-in-Join-clause-here
returns-in_ok-follow_at-in-Join-clause-here g c =
    let at = sym c.node.ensures ∙ c.in-Join.is in
    let first = c.follow_at-in-Join.ensures.stays c.args.node 0 c.in_ok-follow_at-in-Join.ensures.here in
    on_ok_by c.follow_at-in-Join.result (λ second. both_followed g.T.PartialOrder.times c.args.plan.now c.args.fronts.now c.follow_at-in-Join.new.self c.args.node c.in-Join.left c.in-Join.right at first second) c.follow_at-in-Join.ensures.here

pub returns-in_ok-follow_at-in-Join-clause-stays : goal.returns-in_ok-follow_at-in-Join-clause-stays
returns-in_ok-follow_at-in-Join-clause-stays g c n i followed = c.follow_at-in-Join.ensures.stays n i (c.follow_at.ensures.stays n i followed)
