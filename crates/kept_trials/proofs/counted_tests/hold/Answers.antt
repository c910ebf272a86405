use Rattle.std.proofs.Common.{◌≡◌, ℕ, ◌∷◌, Contains, IfOk, OnOk, refl, sym, subst, arith}
use Rattle.std.specs.Prelude.{Result, Ok, Err}
use Rattle.lattice.specs.declared.product.Pair.{Pair}
use Rattle.progress.specs.declared.counted.Counted.{Counted}
use Rattle.kept_trials.proofs.counted_tests.hold.Goals as goal

-- a result that is x, and has some property if it is an Ok, has every property that follows for x
if_ok : {A E P : Type 0} (r : Result A E) (x : A) (Q : A → Type 0) → IfOk r (λ k. k ≡ x) → OnOk r P → (P → Q x) → IfOk r Q
if_ok (Ok k) x Q e p f = subst Q (sym e) (f p)
if_ok (Err z) x Q e p f = tt

pub returns-in-Err-OutOfMemory-clause-there : goal.returns-in-Err-OutOfMemory-clause-there
returns-in-Err-OutOfMemory-clause-there c =
    let x : Counted (Pair ℕ ℕ) = record { place = c.held-in-Err-OutOfMemory.result; time = c.args.time } in
    let items = c.hold-in-Err-OutOfMemory.new.self.items in
    if_ok c.hold-in-Err-OutOfMemory.result x (Contains items) c.hold-in-Err-OutOfMemory.ensures.capability c.hold-in-Err-OutOfMemory.ensures.counted
    (λ same. c.counts_tell_what_is_there.ensures.same (x ∷ c.hold.new.self.items) items x (λ test. sym (same test)) (0, omega arith, refl))

pub returns-in_default-2-clause-there : goal.returns-in_default-2-clause-there
returns-in_default-2-clause-there c =
    let x : Counted (Pair ℕ ℕ) = record { place = c.held.result; time = c.args.time } in
    let items = c.hold.new.self.items in
    if_ok c.hold.result x (Contains items) c.hold.ensures.capability c.hold.ensures.counted
    (λ same. c.counts_tell_what_is_there.ensures.same (x ∷ c.args.tally.now.items) items x (λ test. sym (same test)) (0, omega arith, refl))
