use Rattle.std.proofs.Common.{◌≡◌, List, map, sym, subst, refl, inr, rules}
use Rattle.std.proofs.lemmas.Result.{err_from_is_err_and}
use Rattle.update.specs.declared.refusal.Refusal.TheVariants.{Overflow}
use Rattle.update.specs.declared.unit_time.UnitTime.{UnitTime}
use Rattle.update.specs.Bags.{Entry, Alike, HasLargeCount}
use Rattle.update.specs.Updates.{entry}
use Rattle.update.proofs.UnitTimeLemmas.{sum_entries, large_entries}
use Rattle.update.proofs.entries.Entries.into_bag.Goals as goal

the_unit : UnitTime
the_unit = record {}

pub returns-in_err-entries-clause-refused : goal.returns-in_err-entries-clause-refused
returns-in_err-entries-clause-refused c =
    let large = subst HasLargeCount c.self.view_is (large_entries _ (c.in_err-entries.ensures.overflow.0 refl)) in
    let got = err_from_is_err_and c.from_residual.result c.from_residual.ensures.1 in
    let only : got.0 ≡ Overflow = search rules in
    rw got.1 (inr (only, large))

pub returns-clause-sum : goal.returns-clause-sum
returns-clause-sum c =
    let sum = sum_entries _ the_unit _ (c.in_ok-entries.ensures.sums the_unit) in
    subst (λ bag. Alike bag c.args.self) (sym c.from_consolidated.ensures) (subst (λ (es : List Entry). Alike (map entry c.in_ok-entries.entries.items) es) c.self.view_is sum)
