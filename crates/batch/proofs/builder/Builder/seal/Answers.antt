use Rattle.std.proofs.lemmas.Grind.{common_steps}
use Rattle.std.proofs.Common.{rules, ◌≡◌, IsTrue, refl, sym, ◌∙◌, ap, arith}
use Rattle.std.proofs.lemmas.Result.{err_from_is_err_and}
use Rattle.std.proofs.lemmas.Bool.{and_parts, true≢false}
use Rattle.update.specs.declared.refusal.Refusal.TheVariants.{OutOfMemory}
use Rattle.batch.specs.Intervals.{is_between, is_interval_of}
use Rattle.std.specs.List.{list_all}
use Rattle.batch.proofs.CompactionLemmas.{from_compacted}
use Rattle.batch.proofs.IntervalLemmas.{nothing_between}
use Rattle.batch.proofs.SumsLemmas.{sums_from_totals}
use Rattle.batch.proofs.builder.Builder.seal.Given.{Over}
use Rattle.batch.proofs.builder.Builder.seal.Goals as goal

-- the updates lie between the frontiers
whole : (g : Over) (c : goal.After-drop-sealed-2 g) → IsTrue (is_interval_of g.T.PartialOrder.times c.args.lower.now c.args.upper.now c.self.inside.updates.items)
whole g c = search rules

-- the columns of the batch have the sealed updates
made : (g : Over) (c : goal.After-drop-sealed-2 g) → c.in_ok-columns.columns ≡ c.in_ok-sealed.sealed.items
made g c = c.in_ok-columns.ensures.made ∙ c.as_slice-2.ensures.value

pub returns-in_err-sealed-clause-overflow : goal.returns-in_err-sealed-clause-overflow
returns-in_err-sealed-clause-overflow g c =
    rw (← c.self.view_is) ((λ _. (search rules, c.in_err-sealed.ensures.overflow.0 refl)), (λ _. search rules))

pub returns-in_err-description-clause-overflow : goal.returns-in_err-description-clause-overflow
returns-in_err-description-clause-overflow g c =
    let p = err_from_is_err_and c.from_residual-in_err-description.result c.from_residual-in_err-description.ensures.1 in
    let only : c.in_err-description.field-0.0 ≡ OutOfMemory = c.in_err-description.ensures.only in
    rw (p.1, ← c.self.view_is) ((λ e. absurd (cc (p.2, only, e))), (λ h. absurd (true≢false (sym (c.in_ok-sealed.ensures.overflow.1 h.1)))))

pub returns-in_err-columns-clause-overflow : goal.returns-in_err-columns-clause-overflow
returns-in_err-columns-clause-overflow g c =
    let p = err_from_is_err_and c.from_residual-in_err-columns.result c.from_residual-in_err-columns.ensures.1 in
    let only : c.in_err-columns.field-0.0 ≡ OutOfMemory = c.in_err-columns.ensures.only in
    rw (p.1, ← c.self.view_is) ((λ e. absurd (cc (p.2, only, e))), (λ h. absurd (true≢false (sym (c.in_ok-sealed.ensures.overflow.1 h.1)))))

pub of-requires-clause-still : goal.of-requires-clause-still
of-requires-clause-still g c e =
    let times = g.T.PartialOrder.times in
    let lower = c.args.lower.now in
    let upper = c.args.upper.now in
    let made = c.in_ok-description.ensures.made in
    let same = sym (ap (λ d. d.lower) made) ∙ e ∙ ap (λ d. d.upper) made in
    let inside : IsTrue (is_interval_of times lower upper c.self.inside.updates.items) = search rules in
    c.in_ok-columns.ensures.made ∙ c.as_slice-2.ensures.value ∙ nothing_between times lower upper same _ (c.in_ok-sealed.ensures.among (λ _ t. is_between times lower upper t) (and_parts _ _ inside).1)

pub returns-clause-between : goal.returns-clause-between
returns-clause-between g c =
    let times = g.T.PartialOrder.times in
    let lower = c.args.lower.now in
    let upper = c.args.upper.now in
    rw (c.of.ensures, made g c) (c.in_ok-sealed.ensures.among (λ _ t. is_between times lower upper t) (and_parts _ _ (whole g c)).1)

pub returns-clause-totals : goal.returns-clause-totals
returns-clause-totals g c p = rw (c.of.ensures, made g c, ← c.self.view_is) (c.in_ok-sealed.ensures.totals p)

pub returns-clause-among : goal.returns-clause-among
returns-clause-among g c p = rw (c.of.ensures, made g c, ← c.self.view_is) (c.in_ok-sealed.ensures.among p)

pub returns-clause-sums : goal.returns-clause-sums
returns-clause-sums g c = sums_from_totals g.T.PartialOrder.times _ _ (returns-clause-totals g c)

pub returns-clause-overflow : goal.returns-clause-overflow
returns-clause-overflow g c = rw (← c.self.view_is) ((λ e. cc), (λ h. absurd (true≢false (sym (c.in_ok-sealed.ensures.overflow.1 h.1)))))

pub returns-then-not-is_interval-clause-stray : goal.returns-then-not-is_interval-clause-stray
returns-then-not-is_interval-clause-stray g c = grind (arith, common_steps)

pub returns-clause-sealed : goal.returns-clause-sealed
returns-clause-sealed g c = rw (c.of.ensures, made g c) c.in_ok-sealed.ensures.sealed

pub returns-clause-size : goal.returns-clause-size
returns-clause-size g c = rw (c.of.ensures, made g c, ← c.self.view_is) c.in_ok-sealed.ensures.size

pub returns-clause-stray : goal.returns-clause-stray
returns-clause-stray g c = rw (← c.self.view_is) ((λ e. cc), (λ n. absurd (n (whole g c))))

pub of-requires-clause-compacted : goal.of-requires-clause-compacted
of-requires-clause-compacted g c =
    let times = g.T.PartialOrder.times in
    let updates = c.in_ok-sealed.sealed.items in
    let ts : IsTrue (list_all (λ u. times.below g.T.PartialOrder.times.least u.time) updates) = rw (← c.as_slice.ensures.value) c.known_times.ensures in
    rw (c.in_ok-description.ensures.made, c.in_ok-columns.ensures.made, c.as_slice-2.ensures.value) (from_compacted g.met.T.PartialOrder.order g.met.T.Lattice.bounds g.T.PartialOrder.times.least updates ts)
