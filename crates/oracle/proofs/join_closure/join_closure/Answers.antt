use Rattle.std.proofs.Common.{map}
use Rattle.oracle.specs.Evaluation.{list_of}
use Rattle.oracle.proofs.JoinClosureLemmas.{join_closure_ok}
use Rattle.oracle.proofs.join_closure.join_closure.Goals as goal

pub returns-clause-join_closure : goal.returns-clause-join_closure
returns-clause-join_closure g c =
    join_closure_ok g.T.PartialOrder.times g.T.Ord.cmp c.args.plan.now (list_of c.args.plan.now (map (λ v. v.items) c.args.changes.now)) c.args.frontier.now c.args.view c.in_ok-times.times.items c.deref.result.now c.deref.ensures.value c.in_ok-times.ensures.covers
    c.with_joins.result c.with_joins.ensures.ascending c.with_joins.ensures.closed c.with_joins.ensures.kept
