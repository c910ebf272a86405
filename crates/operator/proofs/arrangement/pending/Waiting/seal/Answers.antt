use Rattle.std.proofs.Common.{◌≡◌, ◌∙◌, ap, sym, subst, IsTrue, List, Err, inl, inr, ⊎_elim}
use Rattle.std.specs.List.{list_all}
use Rattle.std.proofs.lemmas.Result.{err_from_is_err_and}
use Rattle.update.specs.declared.change.Update.{Update}
use Rattle.update.specs.Updates.{total_where, HasLargeTotal}
use Rattle.batch.specs.Intervals.{is_interval_of, passed_updates, open_updates}
use Rattle.operator.specs.Arrangements.{IsFrontOf}
use Rattle.operator.proofs.arrangement.pending.Waiting.seal.Goals as goal

pub returns-in_err-batch-clause-refused : goal.returns-in_err-batch-clause-refused
returns-in_err-batch-clause-refused g c =
    let times = g.T.PartialOrder.times in
    let copied = rw (c.elements-2.ensures.value, c.as_slice-2.ensures.value) at c.in_ok-passed.ensures.copied in
    let same : c.of.result.updates ≡ passed_updates g.T.PartialOrder.times c.args.upper.now c.args.self.now.updates = rw (← c.self.view_is) (ap (λ b. b.updates) c.of.ensures ∙ copied) in
    let p = err_from_is_err_and c.from_residual-in_err-batch.result c.from_residual-in_err-batch.ensures.1 in
    let test = λ (F : List g.row.T.Denot) (us : List (Update g.row.T.Denot)). IsTrue (is_interval_of times F c.args.upper.now us) in
    let interval : test c.in_ok-from.from c.of.result.updates =
    subst (λ F. test F c.of.result.updates) (sym c.in_ok-from.ensures.is)
    (subst (test c.args.lower.now) (sym same) c.requires.interval) in
    rw (p.1, p.2)
    (⊎_elim (λ m. inl m)
    (λ r. ⊎_elim (λ s. absurd (c.in_err-batch.ensures.stray.0 (ap (λ r. Err r) s) interval))
    (λ o. inr (o, subst (HasLargeTotal times) same (c.in_err-batch.ensures.overflow.0 (ap (λ r. Err r) o)).1)) r)
    c.in_err-batch.ensures.only)

pub invariant_of-self : goal.invariant_of-self
invariant_of-self g c =
    let times = g.T.PartialOrder.times in
    let us = c.self.inside.updates.items in
    let opened : (t : g.row.T.Denot) → _ = λ t. rw (c.elements.ensures.value, c.as_slice.ensures.value) at c.in_ok-front.ensures.beyond t in
    let left = c.drop_passed.ensures ∙ ap (λ (F : List g.row.T.Denot). open_updates times F us) c.elements-3.ensures.value in
    subst (IsFrontOf times c.in_ok-front.front.items) (sym left) (record { beyond = opened })

pub returns-clause-totals : goal.returns-clause-totals
returns-clause-totals g c p =
    let copied = rw (c.elements-2.ensures.value, c.as_slice-2.ensures.value) at c.in_ok-passed.ensures.copied in
    let same : c.of.result.updates ≡ passed_updates g.T.PartialOrder.times c.args.upper.now c.args.self.now.updates = rw (← c.self.view_is) (ap (λ b. b.updates) c.of.ensures ∙ copied) in
    c.in_ok-batch.ensures.totals p ∙ ap (total_where p) same

pub returns-clause-among : goal.returns-clause-among
returns-clause-among g c p all =
    let copied = rw (c.elements-2.ensures.value, c.as_slice-2.ensures.value) at c.in_ok-passed.ensures.copied in
    let same : c.of.result.updates ≡ passed_updates g.T.PartialOrder.times c.args.upper.now c.args.self.now.updates = rw (← c.self.view_is) (ap (λ b. b.updates) c.of.ensures ∙ copied) in
    c.in_ok-batch.ensures.among p (subst (λ us. IsTrue (list_all (λ u. p u.row u.time) us)) (sym same) all)
