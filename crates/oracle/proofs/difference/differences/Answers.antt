use Rattle.std.proofs.Common.{◌∙◌, map, subst}
use Rattle.std.specs.Prelude.{IfOk}
use Rattle.plan.specs.Changes.{AreDifferences}
use Rattle.oracle.specs.Evaluation.{list_of}
use Rattle.oracle.proofs.difference.differences.Goals as goal

pub returns-clause-differences : goal.returns-clause-differences
returns-clause-differences g c =
    subst (λ frontier. IfOk c.along.result (λ listed. AreDifferences g.T.PartialOrder.times g.T.Ord.cmp c.args.plan.now (list_of c.args.plan.now (map (λ v. v.items) c.args.changes.now)) frontier c.args.view listed.items))
    (c.deref.ensures.value ∙ c.in_ok-frontier.ensures.elements) c.along.ensures.differences
