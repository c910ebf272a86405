use Rattle.std.proofs.Common.{length, sym, subst, ◌∙◌, arith, ◌≡◌}
use Rattle.desk.specs.Openings.{IsLaidOut}
use Rattle.desk.proofs.OpenLemmas.{none_laid_out, right_first}
use Rattle.desk.proofs.desk.Desk.new.Goals as goal

-- nothing lies on an empty desk
pub loop-n-init : goal.loop-n-init
loop-n-init g c = rw c.empty-desk.ensures (none_laid_out g.T.PartialOrder.times c.args.plan.now)

pub returns-clause-right : goal.returns-clause-right
returns-clause-right g c = λ p q nodes worker.
    let times = g.T.PartialOrder.times in
    let end : c.loop-n.n ≡ c.len-n-end.result = omega (arith, c.loop-n-test.false, c.loop-n.auto.n-end) in
    let laid = subst (IsLaidOut times c.args.plan.now c.loop-n.desk) (end ∙ c.len-n-end.ensures.len) c.loop-n.invariant in
    right_first times g.met.T.PartialOrder.order p q c.loop-n.desk (subst (λ xs. IsLaidOut times xs c.loop-n.desk (length xs)) (sym nodes) laid) c.args.worker worker
