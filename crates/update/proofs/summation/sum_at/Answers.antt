use Rattle.std.proofs.Common.{◌≡◌, ◌≤◌, sym, subst, refl, inr, rules}
use Rattle.std.proofs.lemmas.Result.{err_from_is_err_and}
use Rattle.update.specs.declared.refusal.Refusal.TheVariants.{Overflow}
use Rattle.update.specs.declared.unit_time.UnitTime.{UnitTime}
use Rattle.update.specs.Bags.{Alike, bag_size}
use Rattle.update.specs.UnitTimes.{unit_times}
use Rattle.update.specs.Updates.{as_of, size, HasLargeTotal}
use Rattle.update.proofs.UnitTimeLemmas.{sum_moved, large_moved, large_count, size_moved}
use Rattle.update.proofs.summation.sum_at.Goals as goal

the_unit : UnitTime
the_unit = record {}

pub returns-in_err-entries-clause-refused : goal.returns-in_err-entries-clause-refused
returns-in_err-entries-clause-refused g c =
    let large = rw c.in_ok-gone.ensures.gone at (c.in_err-entries.ensures.overflow.0 refl) in
    let count = large_moved g.T.PartialOrder.times c.args.t c.args.updates.now large in
    let got = err_from_is_err_and c.from_residual-in_err-entries.result c.from_residual-in_err-entries.ensures.1 in
    let only : got.0 ≡ Overflow = search rules in
    rw got.1 (inr (only, count))

pub returns-clause-sum : goal.returns-clause-sum
returns-clause-sum g c =
    let same = rw c.in_ok-gone.ensures.gone at (c.in_ok-entries.ensures.sums the_unit) in
    let sum = sum_moved g.T.PartialOrder.times c.args.t c.args.updates.now the_unit c.in_ok-entries.entries.items same in
    subst (λ bag. Alike bag (as_of g.T.PartialOrder.times c.args.t c.args.updates.now)) (sym c.from_consolidated.ensures) sum

pub returns-clause-size : goal.returns-clause-size
returns-clause-size g c =
    let less = rw c.in_ok-gone.ensures.gone at c.in_ok-entries.ensures.size in
    let smaller = size_moved g.T.PartialOrder.times c.args.t c.args.updates.now c.in_ok-entries.entries.items less in
    subst (λ bag. bag_size bag ≤ size c.args.updates.now) (sym c.from_consolidated.ensures) smaller

pub returns-clause-fits : goal.returns-clause-fits
returns-clause-fits g c large =
    let total = large_count g.T.PartialOrder.times c.args.t c.args.updates.now the_unit large in
    let here = subst (HasLargeTotal unit_times) (sym c.in_ok-gone.ensures.gone) total in
    absurd (search rules)
