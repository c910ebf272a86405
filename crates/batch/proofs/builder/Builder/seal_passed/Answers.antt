use Rattle.std.proofs.Common.{◌≡◌, ◌∙◌, ap, sym, subst, IsTrue, List, Err, rules}
use Rattle.std.specs.List.{list_all}
use Rattle.std.proofs.lemmas.Result.{err_from_is_err_and}
use Rattle.update.specs.declared.refusal.Refusal.TheVariants.{Overflow}
use Rattle.update.specs.declared.change.Update.{Update}
use Rattle.update.specs.Updates.{total_where, HasLargeTotal}
use Rattle.batch.specs.Intervals.{is_interval_of, passed_updates}
use Rattle.batch.proofs.SumsLemmas.{sums_from_totals}
use Rattle.batch.proofs.builder.Builder.seal_passed.Given.{Over}
use Rattle.batch.proofs.builder.Builder.seal_passed.Goals as goal

-- the builder that was sealed had exactly the passed updates
same : (g : Over) (c : goal.After-drop_passed g) → c.of.result.updates ≡ passed_updates g.T.PartialOrder.times c.args.upper.now c.args.self.now.updates
same g c =
    let copied = rw (c.elements.ensures.value, c.as_slice-2.ensures.value) at c.in_ok-passed.ensures.copied in
    rw (← c.self.view_is) (ap (λ b. b.updates) c.of.ensures ∙ copied)

pub returns-in_err-batch-clause-overflow : goal.returns-in_err-batch-clause-overflow
returns-in_err-batch-clause-overflow g c e =
    let p = err_from_is_err_and c.from_residual-in_err-batch.result c.from_residual-in_err-batch.ensures.1 in
    let copied = rw (c.elements.ensures.value, c.as_slice-2.ensures.value) at c.in_ok-passed.ensures.copied in
    let whole = ap (λ b. b.updates) c.of.ensures ∙ copied in
    let was : c.in_err-batch.field-0.0 ≡ Overflow = cc (p.1, p.2, e) in
    rw (← c.self.view_is) (subst (HasLargeTotal g.T.PartialOrder.times) whole (c.in_err-batch.ensures.overflow.0 (ap (λ r. Err r) was)).1)

pub returns-clause-totals : goal.returns-clause-totals
returns-clause-totals g c p = c.in_ok-batch.ensures.totals p ∙ ap (total_where p) (same g c)

pub returns-clause-sums : goal.returns-clause-sums
returns-clause-sums g c = sums_from_totals g.T.PartialOrder.times _ _ (returns-clause-totals g c)

pub returns-clause-among : goal.returns-clause-among
returns-clause-among g c p all =
    c.in_ok-batch.ensures.among p (subst (λ us. IsTrue (list_all (λ u. p u.row u.time) us)) (sym (same g c)) all)

pub returns-clause-fits : goal.returns-clause-fits
returns-clause-fits g c large =
    let times = g.T.PartialOrder.times in
    let test = λ (us : List (Update g.row.T.Denot)). IsTrue (is_interval_of times c.args.lower.now c.args.upper.now us) in
    let inside : test (passed_updates times c.args.upper.now c.self.inside.updates.items) = search rules in
    let interval : test c.of.result.updates = subst test (sym (same g c)) (rw (← c.self.view_is) inside) in
    let overflows = c.in_ok-batch.ensures.overflow.1 (interval, subst (HasLargeTotal times) (sym (same g c)) large) in
    cc
