use Rattle.std.proofs.Common.{ℕ, ◌∷◌, Contains, length, refl, ap, sym, subst, ◌∙◌, arith}
use Rattle.std.specs.List.{filter}
use Rattle.lattice.specs.declared.product.Pair.{Pair}
use Rattle.progress.specs.Tallies.{SameCounts}
use Rattle.progress.specs.declared.counted.Counted.{Counted}
use Rattle.kept_trials.proofs.kept_tests.taken_in_turn.Goals as goal

-- it was counted just before
pub remove-requires : goal.remove-requires
remove-requires c =
    let y : Counted (Pair ℕ ℕ) = record { place = c.first_port-place.result; time = c.at-two.result } in
    let there = c.counts_tell_what_is_there.ensures.same (y ∷ c.add.new.tally.items) c.add-2.new.tally.items y (λ test. sym (c.in_ok-add-2.ensures test)) (0, omega arith, refl) in
    subst (λ xs. Contains xs y) (sym c.in_ok-both.ensures) there

-- it was counted before that, and what one call added the other took away
pub remove-requires-2 : goal.remove-requires-2
remove-requires-2 c =
    let x : Counted (Pair ℕ ℕ) = record { place = c.first_port-place.result; time = c.at-one.result } in
    let y : Counted (Pair ℕ ℕ) = record { place = c.first_port-place.result; time = c.at-two.result } in
    let law = c.counts_tell_what_is_there.ensures in
    let first = c.add.new.tally.items in
    let left = c.remove.new.self.items in
    let once = law.same (x ∷ c.args.tally.now.items) first x (λ test. sym (c.in_ok-add.ensures test)) (0, omega arith, refl) in
    let both : SameCounts (y ∷ left) (y ∷ first) = (λ test. c.remove.ensures.counted test ∙ (ap (λ xs. length (filter test xs)) c.in_ok-both.ensures ∙ c.in_ok-add-2.ensures test)) in
    let there = law.same first left x (λ test. sym (law.cancelled left first y both test)) once in
    subst (λ xs. Contains xs x) (sym c.in_ok-single.ensures) there
