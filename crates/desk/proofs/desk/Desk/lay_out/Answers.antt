use Rattle.std.proofs.Common.{suc, sym, subst}
use Rattle.desk.specs.Openings.{IsLaidOut}
use Rattle.desk.proofs.ResultLemmas.{on_ok_by}
use Rattle.desk.proofs.OpenLemmas.{laid_out_more}
use Rattle.desk.proofs.desk.Desk.lay_out.Goals as goal

pub returns-clause-laid_out : goal.returns-clause-laid_out
returns-clause-laid_out g c =
    let times = g.T.PartialOrder.times in
    on_ok_by c.put.result (λ e. subst (λ d. IsLaidOut times c.args.plan.now d (suc c.args.node)) (sym e)
    (laid_out_more times c.args.plan.now c.join_of.new.self c.args.node c.in_ok-join.ensures.laid_out c.in_ok-arrangement.arrangement c.reduction_of-reduction.result c.in_ok-join.join
    c.in_ok-arrangement.ensures.made c.reduction_of-reduction.ensures c.in_ok-join.ensures.made)) c.put.ensures.put
