use Rattle.std.proofs.Common.{rules, inl}
use Rattle.std.proofs.lemmas.Result.{err_from_is_err_and}
use Rattle.update.specs.Refusals.{IsMemoryOrOverflow}
use Rattle.desk.specs.Upkeep.{IsTooLargeOn}
use Rattle.desk.proofs.FollowLemmas.{large_on_before, leads_on_then, may_then}
use Rattle.desk.proofs.ResultLemmas.{if_err_at, if_err_from, if_ok_by, memory_or}
use Rattle.desk.proofs.desk.Desk.tidy.Goals as goal

pub settle_all-requires : goal.settle_all-requires
settle_all-requires g c =
    (search rules, (search rules, may_then g.T.PartialOrder.times c.args.plan.now c.args.fronts.now c.args.self.now c.follow_all.new.self c.follow_all.ensures.leads c.requires.may))

pub returns-in_err-follow_all : goal.returns-in_err-follow_all
returns-in_err-follow_all g c =
    let p = err_from_is_err_and c.from_residual.result c.from_residual.ensures.1 in
    let r = c.from_residual.result in
    record {
      leads = c.follow_all.ensures.leads;
      tidy = rw p.1 tt;
      refused = if_err_at r (IsMemoryOrOverflow (IsTooLargeOn g.T.PartialOrder.times c.args.plan.now c.args.fronts.now g.T.Ord.cmp c.args.self.now)) c.in_err-follow_all.field-0.0 p.0 p.1 (cc p.2) (inl c.in_err-follow_all.ensures.only);
    }

pub returns : goal.returns
returns g c =
    let times = g.T.PartialOrder.times in
    let plan = c.args.plan.now in
    let fronts = c.args.fronts.now in
    record {
      leads = leads_on_then times plan fronts c.args.self.now c.follow_all.new.self c.settle_all.new.self c.follow_all.ensures.leads c.settle_all.ensures.leads;
      tidy = if_ok_by c.settle_all.result (λ done settled yes. record { joins = c.settle_all.ensures.followed c.in_ok-follow_all.ensures.followed; settled = settled yes }) c.settle_all.ensures.settled;
      refused = if_err_from c.settle_all.result (IsMemoryOrOverflow (IsTooLargeOn times plan fronts g.T.Ord.cmp c.follow_all.new.self)) (IsMemoryOrOverflow (IsTooLargeOn times plan fronts g.T.Ord.cmp c.args.self.now))
          (λ e m. memory_or (large_on_before times plan fronts c.args.self.now c.follow_all.new.self c.follow_all.ensures.leads g.T.Ord.cmp) m) c.settle_all.ensures.refused;
    }
