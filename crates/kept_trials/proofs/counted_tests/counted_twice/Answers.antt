use Rattle.std.proofs.Common.{ℕ, ◌∷◌, Contains, length, refl, ap, sym, subst, ◌∙◌, arith}
use Rattle.std.specs.List.{filter}
use Rattle.progress.specs.Tallies.{SameCounts}
use Rattle.lattice.specs.declared.product.Pair.{Pair}
use Rattle.progress.specs.declared.counted.Counted.{Counted}
use Rattle.kept_trials.proofs.counted_tests.counted_twice.Goals as goal

-- it was counted just before
pub remove-requires : goal.remove-requires
remove-requires c =
    let x : Counted (Pair ℕ ℕ) = record { place = c.port-place.result; time = c.at-time.result } in
    let before = c.is_passed-first.new.tally.items in
    let there = c.counts_tell_what_is_there.ensures.same (x ∷ before) c.add-2.new.tally.items x (λ test. sym (c.in_ok-add-2.ensures.counted test)) (0, omega arith, refl) in
    subst (λ xs. Contains xs x) (sym c.is_passed-second.ensures.items) there

-- it was counted before that too, and what one call added the other took away
pub remove-requires-2 : goal.remove-requires-2
remove-requires-2 c =
    let x : Counted (Pair ℕ ℕ) = record { place = c.port-place.result; time = c.at-time.result } in
    let law = c.counts_tell_what_is_there.ensures in
    let before = c.is_passed-first.new.tally.items in
    let left = c.remove.new.self.items in
    let once = law.same (x ∷ c.args.tally.now.items) c.add.new.tally.items x (λ test. sym (c.in_ok-add.ensures.counted test)) (0, omega arith, refl) in
    let both : SameCounts (x ∷ left) (x ∷ before) = (λ test. c.remove.ensures.counted test ∙ (ap (λ xs. length (filter test xs)) c.is_passed-second.ensures.items ∙ c.in_ok-add-2.ensures.counted test)) in
    let there = law.same before left x (λ test. sym (law.cancelled left before x both test)) (subst (λ xs. Contains xs x) (sym c.is_passed-first.ensures.items) once) in
    subst (λ xs. Contains xs x) (sym c.is_passed-third.ensures.items) there
