use Rattle.std.proofs.Common.{◌∙◌, ◌++◌, map, sym, subst, inl, inr, ⊎_elim}
use Rattle.std.proofs.lemmas.Result.{err_from_is_err_and}
use Rattle.update.specs.declared.unit_time.UnitTime.{UnitTime}
use Rattle.update.specs.Bags.{Alike}
use Rattle.update.specs.Updates.{entry}
use Rattle.update.proofs.UnitTimeLemmas.{sum_both, large_both, large_there, both_entries}
use Rattle.update.proofs.bag.Bag.with.Goals as goal

the_unit : UnitTime
the_unit = record {}

pub returns-clause-sum : goal.returns-clause-sum
returns-clause-sum g c =
    let parts = both_entries _ _ c.args.updates.now _ c.in_ok-entries.ensures.copied c.in_ok-push_counts.ensures.more in
    let sum = sum_both _ c.args.updates.now c.args.self.now parts the_unit _ (c.in_ok-entries-2.ensures.sums the_unit) in
    subst (λ bag. Alike bag (c.args.self.now ++ map entry c.args.updates.now)) (sym c.from_consolidated.ensures) sum

pub returns-clause-fits : goal.returns-clause-fits
returns-clause-fits g c large =
    let parts = both_entries _ _ c.args.updates.now _ c.in_ok-entries.ensures.copied c.in_ok-push_counts.ensures.more in
    absurd (c.in_ok-entries-2.ensures.fits (large_there _ c.args.updates.now _ parts the_unit large))

pub returns-in_err-entries-2-clause-refused : goal.returns-in_err-entries-2-clause-refused
returns-in_err-entries-2-clause-refused g c =
    let parts = both_entries _ _ c.args.updates.now _ c.in_ok-entries.ensures.copied c.in_ok-push_counts.ensures.more in
    let got = err_from_is_err_and c.from_residual-in_err-entries-2.result c.from_residual-in_err-entries-2.ensures.1 in
    rw got.1
    (⊎_elim
    (λ memory. inl (got.2 ∙ memory))
    (λ large. inr (got.2 ∙ large.0, large_both _ c.args.updates.now _ parts large.1))
    c.in_err-entries-2.ensures.refused)
