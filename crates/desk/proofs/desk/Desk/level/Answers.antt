use Rattle.std.proofs.Common.{arith, ap, ◌∙◌}
use Rattle.lattice.specs.Frontiers.{is_beyond}
use Rattle.desk.proofs.NeedLemmas.{due_next, is_level, none_before}
use Rattle.desk.proofs.desk.Desk.level.Goals as goal

pub loop-n-init : goal.loop-n-init
loop-n-init g c t = ap (λ F. is_beyond g.T.PartialOrder.times F t) c.new-level.ensures ∙ none_before g.T.PartialOrder.times c.args.fronts.now c.args.self.now.reductions c.args.source c.args.plan.now t

pub loop-n-preserved : goal.loop-n-preserved
loop-n-preserved g c =
    due_next g.T.PartialOrder.times c.args.fronts.now c.args.self.now.reductions c.args.source c.args.plan.now c.loop-n.n c.new.result c.new.ensures c.loop-n.level c.put_due.new.level c.loop-n.invariant c.in_ok-put_due.ensures.beyond

pub returns-clause-level : goal.returns-clause-level
returns-clause-level g c =
    is_level g.T.PartialOrder.times c.args.fronts.now c.args.self.now.reductions c.args.source c.args.plan.now g.met.T.PartialOrder.order c.loop-n.level c.loop-n.n (omega (arith, c.loop-n-test.false, c.loop-n.auto.n-end, c.len-n-end.ensures.len)) c.loop-n.invariant
