use Rattle.std.proofs.Common.{◌≡◌, map, sym, subst, w64, FitsSigned, rules}
use Rattle.std.specs.Prelude.{neg_ℤ}
use Rattle.std.specs.List.{Any}
use Rattle.std.proofs.lemmas.Result.{err_from_is_err_and}
use Rattle.update.specs.Bags.{Entry, HasLargeCount}
use Rattle.plan.specs.Operators.{negated_entry}
use Rattle.update.specs.Refusals.{IsMemoryOrOverflow}
use Rattle.oracle.proofs.ResultLemmas.{refused_by}
use Rattle.oracle.proofs.ProductLemmas.{negated_large}
use Rattle.oracle.proofs.operators.opposite.Goals as goal

pub returns-in_err-put_opposites-clause-refused : goal.returns-in_err-put_opposites-clause-refused
returns-in_err-put_opposites-clause-refused c =
    let es = c.args.bag.now in
    let got = err_from_is_err_and c.from_residual.result c.from_residual.ensures.1 in
    let same : got.0 ≡ c.in_err-put_opposites.field-0.0 = search rules in
    let cause = refused_by (Any (λ (e : Entry). FitsSigned w64 (neg_ℤ e.count) → ⊥) es) (HasLargeCount (map negated_entry es)) c.in_err-put_opposites.field-0.0 (negated_large es c.known.ensures.bag) c.in_err-put_opposites.ensures.refused in
    rw got.1 (subst (λ r. IsMemoryOrOverflow (HasLargeCount (map negated_entry es)) r) (sym same) cause)
