-- The index of an input among the inputs is the number of inputs before it. The law
-- `lists_belong_to_inputs` rests on this.
use Rattle.std.proofs.Common.{◌≡◌, ℕ, zero, suc, ◌<◌, Bool, true, false, cond, List, [], ◌∷◌, ◌++◌, length, get_or, ⊎_elim, ap, subst, ◌∙◌, length-append, arith}
use Rattle.std.specs.List.{filter}
use Rattle.std.proofs.lemmas.Bool.{cases_lt}
use Rattle.std.proofs.lemmas.List.{append-nil, get_or_push, get_or_append_left}
use Rattle.std.proofs.lemmas.List.Elements.{filter-append}
use Rattle.plan.specs.Ancestors.{numbers_below}

-- the i-th input has i inputs before it
pub place_of : (test : ℕ → Bool) (m i : ℕ) → i < length (filter test (numbers_below m)) → length (filter test (numbers_below (get_or (filter test (numbers_below m)) i 0))) ≡ i
place_of test zero i l = absurd (omega (arith, l))
place_of test (suc m) i l =
    let whole : filter test (numbers_below m ++ m ∷ []) ≡ filter test (numbers_below m) ++ cond (test m) (m ∷ []) [] = filter-append test (numbers_below m) (m ∷ []) in
    ap (λ ns. length (filter test (numbers_below (get_or ns i 0)))) whole
    ∙ step (λ h. place_of test m i h) (test m) (subst (λ (ns : List ℕ). i < length ns) whole l)
  where
    step : (i < length (filter test (numbers_below m)) → length (filter test (numbers_below (get_or (filter test (numbers_below m)) i 0))) ≡ i)
        → (b : Bool) → i < length (filter test (numbers_below m) ++ cond b (m ∷ []) []) → length (filter test (numbers_below (get_or (filter test (numbers_below m) ++ cond b (m ∷ []) []) i 0))) ≡ i
    step before true h =
        let long = length-append (filter test (numbers_below m)) (m ∷ []) in
        ⊎_elim
        (λ k. ap (λ n. length (filter test (numbers_below n))) (get_or_append_left (filter test (numbers_below m)) (m ∷ []) 0 i k) ∙ before k)
        (λ k.
        let last : length (filter test (numbers_below m)) ≡ i = omega (arith, h, k, long) in
        ap (λ n. length (filter test (numbers_below n))) (get_or_push (filter test (numbers_below m)) m 0 i last) ∙ last)
        (cases_lt i (length (filter test (numbers_below m))))
    step before false h =
        let same = append-nil (filter test (numbers_below m)) in
        ap (λ ns. length (filter test (numbers_below (get_or ns i 0)))) same ∙ before (subst (λ (ns : List ℕ). i < length ns) same h)
