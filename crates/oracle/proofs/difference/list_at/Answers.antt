use Rattle.std.proofs.Common.{◌≡◌, ◌⊎◌, map, inr, sym, subst, rules}
use Rattle.std.proofs.lemmas.Result.{err_from_is_err_and}
use Rattle.plan.specs.Changes.{query_at}
use Rattle.update.specs.Refusals.{IsMemoryOrOverflow}
use Rattle.oracle.specs.Evaluation.{HasLargeAbove, list_of, sums_at}
use Rattle.oracle.specs.Listing.{HasLargeGap}
use Rattle.oracle.proofs.ResultLemmas.{refused_by}
use Rattle.oracle.proofs.ListingLemmas.{gap_alike}
use Rattle.oracle.proofs.difference.list_at.Goals as goal

pub returns-in_err-gap-clause-refused : goal.returns-in_err-gap-clause-refused
returns-in_err-gap-clause-refused g c =
    let times = g.T.PartialOrder.times in
    let p = c.args.plan.now in
    let t = c.args.t in
    let bag = c.in_ok-bag.bag in
    let wanted = query_at g.T.PartialOrder.times c.args.plan.now (list_of c.args.plan.now (map (λ v. v.items) c.args.changes.now)) c.args.view c.args.t in
    let above = HasLargeAbove c.args.plan.now (sums_at g.T.PartialOrder.times c.args.plan.now (map (λ v. v.items) c.args.changes.now) c.args.t) c.args.view in
    let got = err_from_is_err_and c.from_residual-in_err-gap.result c.from_residual-in_err-gap.ensures.1 in
    let same : got.0 ≡ c.in_err-gap.field-0.0 = search rules in
    let cause = refused_by (HasLargeGap times t bag c.deref.result.now) (above ⊎ HasLargeGap times t wanted c.args.listed.now.items) c.in_err-gap.field-0.0
    (λ large. inr (gap_alike times t bag wanted c.deref.result.now c.args.listed.now.items c.in_ok-bag.ensures.query c.deref.ensures.value large)) c.in_err-gap.ensures.refused in
    rw got.1 (subst (λ r. IsMemoryOrOverflow (above ⊎ HasLargeGap times t wanted c.args.listed.now.items) r) (sym same) cause)
