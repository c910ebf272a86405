use Rattle.std.proofs.Common.{◌≡◌, ℕ, suc, Bool, true, false, cond, List, ◌∷◌, Contains, length, refl, sym, subst, ◌∙◌, arith}
use Rattle.std.specs.List.{filter}
use Rattle.lattice.specs.declared.product.Pair.{Pair}
use Rattle.progress.specs.Tallies.{SameCounts}
use Rattle.progress.specs.declared.counted.Counted.{Counted}
use Rattle.kept_trials.proofs.kept_tests.pass_bundle.Goals as goal

-- one item more in front of lists that count alike
more : {A : Type 0} (test : A → Bool) (y : A) (xs ys : List A) → length (filter test xs) ≡ length (filter test ys) → length (filter test (y ∷ xs)) ≡ length (filter test (y ∷ ys))
more test y xs ys e = elim (test y) as (λ b. length (cond b (y ∷ filter test xs) (filter test xs)) ≡ length (cond b (y ∷ filter test ys) (filter test ys))) [
  | true ↦ omega (arith, e)
  | false ↦ e
]

-- the order of two items in front does not count
swapped : {A : Type 0} (test : A → Bool) (x y : A) (xs : List A) → length (filter test (x ∷ (y ∷ xs))) ≡ length (filter test (y ∷ (x ∷ xs)))
swapped test x y xs = by (test x) (test y)
  where
    by : (a b : Bool) → length (cond a (x ∷ cond b (y ∷ filter test xs) (filter test xs)) (cond b (y ∷ filter test xs) (filter test xs))) ≡ length (cond b (y ∷ cond a (x ∷ filter test xs) (filter test xs)) (cond a (x ∷ filter test xs) (filter test xs)))
    by true true = refl
    by true false = refl
    by false true = refl
    by false false = refl

-- the bundle was counted before the time was held
pub remove-requires : goal.remove-requires
remove-requires c =
    let x : Counted (Pair ℕ ℕ) = record { place = c.first_port-place.result; time = c.args.time } in
    let y : Counted (Pair ℕ ℕ) = record { place = c.held_at_first.result; time = c.args.time } in
    let law = c.counts_tell_what_is_there.ensures in
    let first = c.add.new.tally.items in
    let there = law.same (x ∷ c.args.tally.now.items) first x (λ test. sym (c.in_ok-add.ensures test)) (0, omega arith, refl) in
    law.same (y ∷ first) c.hold.new.self.items x (λ test. sym (c.in_ok-capability.ensures.counted test)) (suc there.0, omega (arith, there.1), there.2)

-- what was held is all that is left
pub give_back-requires : goal.give_back-requires
give_back-requires c =
    let x : Counted (Pair ℕ ℕ) = record { place = c.first_port-place.result; time = c.args.time } in
    let y : Counted (Pair ℕ ℕ) = record { place = c.held_at_first.result; time = c.args.time } in
    let law = c.counts_tell_what_is_there.ensures in
    let old = c.args.tally.now.items in
    let first = c.add.new.tally.items in
    let left = c.remove.new.self.items in
    let both : SameCounts (x ∷ left) (x ∷ (y ∷ old)) = (λ test. c.remove.ensures.counted test ∙ (c.in_ok-capability.ensures.counted test ∙ (more test y first (x ∷ old) (c.in_ok-add.ensures test) ∙ swapped test y x old))) in
    let there = law.same (y ∷ old) left y (λ test. sym (law.cancelled left (y ∷ old) x both test)) (0, omega arith, refl) in
    subst (λ z. Contains left z) (sym c.in_ok-capability.ensures.capability) there
