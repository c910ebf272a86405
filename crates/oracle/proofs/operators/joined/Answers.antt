use Rattle.std.proofs.Common.{◌≡◌, ◌⊎◌, inr, sym, subst, rules}
use Rattle.std.proofs.lemmas.Result.{err_from_is_err_and}
use Rattle.update.specs.Bags.{HasLargeCount}
use Rattle.plan.specs.Operators.{join_output}
use Rattle.update.specs.Refusals.{IsMemoryOrOverflow}
use Rattle.oracle.specs.Evaluation.{HasLargeProductOf}
use Rattle.oracle.specs.Products.{HasLargePair}
use Rattle.oracle.proofs.ResultLemmas.{refused_by}
use Rattle.oracle.proofs.ProductLemmas.{large_product}
use Rattle.oracle.proofs.operators.joined.Goals as goal

pub returns-in_err-put_joined-clause-refused : goal.returns-in_err-put_joined-clause-refused
returns-in_err-put_joined-clause-refused c =
    let k = c.args.k in
    let left = c.args.left.now in
    let right = c.args.right.now in
    let got = err_from_is_err_and c.from_residual.result c.from_residual.ensures.1 in
    let same : got.0 ≡ c.in_err-put_joined.field-0.0 = search rules in
    let cause = refused_by (HasLargePair k left right) (HasLargeCount (join_output k left right) ⊎ HasLargeProductOf k left right) c.in_err-put_joined.field-0.0 (λ pair. inr (large_product k left right c.known.ensures.bag c.known-2.ensures.bag pair)) c.in_err-put_joined.ensures.refused in
    rw got.1 (subst (λ r. IsMemoryOrOverflow (HasLargeCount (join_output k left right) ⊎ HasLargeProductOf k left right) r) (sym same) cause)
