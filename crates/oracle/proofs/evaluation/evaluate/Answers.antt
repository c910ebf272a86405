use Rattle.std.proofs.Common.{map, length}
use Rattle.oracle.specs.Evaluation.{sums_at}
use Rattle.oracle.proofs.EvaluationLemmas.{evaluated}
use Rattle.oracle.proofs.evaluation.evaluate.Goals as goal

pub returns-clause-query : goal.returns-clause-query
returns-clause-query g c =
    let inputs = sums_at g.T.PartialOrder.times c.args.plan.now (map (λ v. v.items) c.args.changes.now) c.args.t in
    evaluated c.args.plan.now c.known.ensures.plan inputs c.args.view (length c.in_ok-bags.bags) c.in_ok-bags.ensures.count c.next_bag.result c.next_bag.ensures.query
