use Rattle.std.proofs.Common.{◌≡◌, ◌<◌, ◌≤◌, ◌⊎◌, map, length, sym, subst, rules, arith}
use Rattle.std.proofs.lemmas.Result.{err_from_is_err_and}
use Rattle.plan.specs.Changes.{query_at}
use Rattle.update.specs.Refusals.{IsMemoryOrOverflow}
use Rattle.oracle.specs.Evaluation.{HasLargeAbove, list_of, sums_at}
use Rattle.oracle.specs.JoinClosures.{HavePassed, IsJoinClosure}
use Rattle.oracle.specs.Listing.{HasLargeDifference, HasLargeGap}
use Rattle.oracle.proofs.ResultLemmas.{refused_by}
use Rattle.oracle.proofs.DifferenceLemmas.{listed_none, listed_next, listed_large, listed_end, passed_here}
use Rattle.oracle.proofs.difference.along.Goals as goal

pub loop-t-init : goal.loop-t-init
loop-t-init g c =
    rw c.new-listed.ensures.items (listed_none g.met.T.PartialOrder.order g.met.T.Lattice.bounds g.met.T.Lattice.extends g.met.T.Ord.total c.args.plan.now c.known.ensures.plan (map (λ v. v.items) c.args.changes.now) c.args.view c.requires.view c.args.frontier.now c.in_ok-join_closure.join_closure.items c.in_ok-join_closure.ensures.join_closure)

pub returns-in_err-list_at-clause-refused : goal.returns-in_err-list_at-clause-refused
returns-in_err-list_at-clause-refused g c =
    let times = g.T.PartialOrder.times in
    let f = c.t-item.result in
    let elements = c.deref-t-items.result.now in
    let is = subst (λ ts. IsJoinClosure g.T.PartialOrder.times g.T.Ord.cmp c.args.plan.now (list_of c.args.plan.now (map (λ v. v.items) c.args.changes.now)) c.args.frontier.now c.args.view ts) (sym c.deref-t-items.ensures.value) c.in_ok-join_closure.ensures.join_closure in
    let all = subst (HavePassed g.T.PartialOrder.times c.args.frontier.now) (sym c.deref-t-items.ensures.value) c.in_ok-join_closure.ensures.passed in
    let inside : c.loop-t.t-index < length c.deref-t-items.result.now = omega arith in
    let wanted = query_at g.T.PartialOrder.times c.args.plan.now (list_of c.args.plan.now (map (λ v. v.items) c.args.changes.now)) c.args.view c.t-item.result in
    let above = HasLargeAbove c.args.plan.now (sums_at g.T.PartialOrder.times c.args.plan.now (map (λ v. v.items) c.args.changes.now) c.t-item.result) c.args.view in
    let large = HasLargeDifference g.T.PartialOrder.times c.args.plan.now (map (λ v. v.items) c.args.changes.now) c.args.frontier.now c.args.view in
    let passed = passed_here g.met.T.PartialOrder.order g.met.T.Lattice.bounds g.met.T.Lattice.extends g.met.T.Ord.total c.args.plan.now c.known.ensures.plan (map (λ v. v.items) c.args.changes.now) c.args.view c.requires.view c.args.frontier.now elements is c.loop-t.t-index f inside c.t-item.is all in
    let got = err_from_is_err_and c.from_residual-in_err-list_at.result c.from_residual-in_err-list_at.ensures.1 in
    let same : got.0 ≡ c.in_err-list_at.field-0.0 = search rules in
    let cause = refused_by (above ⊎ HasLargeGap times f wanted c.loop-t.listed.items) large c.in_err-list_at.field-0.0
    (listed_large g.met.T.PartialOrder.order g.met.T.Lattice.bounds g.met.T.Lattice.extends g.met.T.Ord.total c.args.plan.now c.known.ensures.plan (map (λ v. v.items) c.args.changes.now) c.args.view c.requires.view c.args.frontier.now elements is c.loop-t.t-index f inside c.t-item.is c.loop-t.listed.items passed c.loop-t.invariant) c.in_err-list_at.ensures.refused in
    rw got.1 (subst (λ r. IsMemoryOrOverflow large r) (sym same) cause)

pub loop-t-preserved : goal.loop-t-preserved
loop-t-preserved g c =
    let f = c.t-item.result in
    let elements = c.deref-t-items.result.now in
    let is = subst (λ ts. IsJoinClosure g.T.PartialOrder.times g.T.Ord.cmp c.args.plan.now (list_of c.args.plan.now (map (λ v. v.items) c.args.changes.now)) c.args.frontier.now c.args.view ts) (sym c.deref-t-items.ensures.value) c.in_ok-join_closure.ensures.join_closure in
    let all = subst (HavePassed g.T.PartialOrder.times c.args.frontier.now) (sym c.deref-t-items.ensures.value) c.in_ok-join_closure.ensures.passed in
    let inside : c.loop-t.t-index < length c.deref-t-items.result.now = omega arith in
    let passed = passed_here g.met.T.PartialOrder.order g.met.T.Lattice.bounds g.met.T.Lattice.extends g.met.T.Ord.total c.args.plan.now c.known.ensures.plan (map (λ v. v.items) c.args.changes.now) c.args.view c.requires.view c.args.frontier.now elements is c.loop-t.t-index f inside c.t-item.is all in
    listed_next g.met.T.PartialOrder.order g.met.T.Lattice.bounds g.met.T.Lattice.extends g.met.T.Ord.total c.args.plan.now c.known.ensures.plan (map (λ v. v.items) c.args.changes.now) c.args.view c.requires.view c.args.frontier.now elements is c.loop-t.t-index f inside c.t-item.is c.loop-t.listed.items c.list_at.new.listed.items passed c.in_ok-list_at.ensures.goes_on c.loop-t.invariant

pub returns-clause-differences : goal.returns-clause-differences
returns-clause-differences g c =
    let elements = c.deref-t-items.result.now in
    let is = subst (λ ts. IsJoinClosure g.T.PartialOrder.times g.T.Ord.cmp c.args.plan.now (list_of c.args.plan.now (map (λ v. v.items) c.args.changes.now)) c.args.frontier.now c.args.view ts) (sym c.deref-t-items.ensures.value) c.in_ok-join_closure.ensures.join_closure in
    let long : length c.deref-t-items.result.now ≤ c.loop-t.t-index = omega arith in
    listed_end g.met.T.PartialOrder.order g.met.T.Lattice.bounds g.met.T.Lattice.extends g.met.T.Ord.total c.args.plan.now c.known.ensures.plan (map (λ v. v.items) c.args.changes.now) c.args.view c.requires.view c.args.frontier.now elements is c.loop-t.t-index long c.loop-t.listed.items c.loop-t.invariant
