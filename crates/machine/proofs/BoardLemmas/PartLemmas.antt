-- The bundles that are made of the parts of workers, one worker after another.
use Rattle.std.proofs.Common.{◌≡◌, ℕ, suc, ◌+◌, List, [], ◌∷◌, ◌++◌, sym, ap, ap₂, ◌∙◌, arith, append_assoc}
use Rattle.std.specs.List.{flat_map}
use Rattle.std.proofs.lemmas.List.{append-nil}
use Rattle.std.proofs.lemmas.List.Concat.{flat_map-append}
use Rattle.plan.specs.Ancestors.{numbers_below}

-- what the numbers so far give, and then what the next one gives
pub with_next : {A : Type 0} (f : ℕ → List A) (old mid new more : List A) (n : ℕ) → more ≡ f n → mid ≡ old ++ flat_map f (numbers_below n) → new ≡ mid ++ more → new ≡ old ++ flat_map f (numbers_below (n + 1))
with_next f old mid new more n e m h =
    let next : suc n ≡ n + 1 = omega arith in
    h
    ∙ (ap₂ (λ xs ys. xs ++ ys) m e
    ∙ (append_assoc old (flat_map f (numbers_below n)) (f n)
    ∙ ap (λ xs. old ++ xs) (sym (ap (λ k. flat_map f (numbers_below k)) (sym next) ∙ (flat_map-append f (numbers_below n) (n ∷ []) ∙ ap (λ xs. flat_map f (numbers_below n) ++ xs) (append-nil (f n)))))))
