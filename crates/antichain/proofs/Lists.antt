-- Membership in lists by recursion, and what a filter keeps.
use Rattle.std.proofs.Common.{◌≡◌, ℕ, zero, suc, ◌<◌, ◌≤◌, Bool, true, false, cond, List, [], ◌∷◌, IsTrue, length, refl, sym, ◌∙◌, ap, ◌⊎◌, inl, inr, ⊎_elim, arith}
use Rattle.std.proofs.lemmas.Bool.{and_parts, and_from, true≢false}
use Rattle.std.specs.List.{Contains, filter, list_all, slice_index_or}

-- t is one of the elements
abbrev pub Among : {T : Type 0} → T → List T → Type 0
Among t [] = ⊥
Among t (x ∷ xs) = (x ≡ t) ⊎ Among t xs

among_at : {T : Type 0} (t : T) (xs : List T) (k : ℕ) → k < length xs → slice_index_or xs k t ≡ t → Among t xs
among_at t [] k h e = absurd (omega (arith, h))
among_at t (x ∷ xs) zero h e = inl e
among_at t (x ∷ xs) (suc k) h e = inr (among_at t xs k (omega (arith, h)) e)

-- membership in std's sense gives membership by recursion
pub among_contains : {T : Type 0} (t : T) (xs : List T) → Contains xs t → Among t xs
among_contains t xs h = among_at t xs h.0 h.1 h.2

-- membership by recursion gives membership in std's sense
pub contains_among : {T : Type 0} (t : T) (xs : List T) → Among t xs → Contains xs t
contains_among t [] h = absurd h
contains_among t (x ∷ xs) h =
    ⊎_elim
    (λ e. (0, omega arith, e))
    (λ a. let c = contains_among t xs a in (suc c.0, (let lt : c.0 < length xs = c.1 in omega arith), c.2))
    h

-- if all elements pass a test, then each does
pub all_at : {T : Type 0} (p : T → Bool) (xs : List T) (t : T) → IsTrue (list_all p xs) → Among t xs → IsTrue (p t)
all_at p [] t a h = absurd h
all_at p (x ∷ xs) t a h =
    let parts = and_parts _ _ a in
    ⊎_elim (λ e. ap p (sym e) ∙ parts.0) (λ m. all_at p xs t parts.1 m) h

-- if each element passes a test, then all do
pub all_from : {T : Type 0} (p : T → Bool) (xs : List T) → ((t : T) → Among t xs → IsTrue (p t)) → IsTrue (list_all p xs)
all_from p [] h = refl
all_from p (x ∷ xs) h = and_from _ _ (h x (inl refl)) (all_from p xs (λ t m. h t (inr m)))

-- an element of a filtered list is in the list and passes the test
pub filter_has : {T : Type 0} (p : T → Bool) (xs : List T) (t : T) → Among t (filter p xs) → Among t xs × IsTrue (p t)
filter_has p [] t h = absurd h
filter_has p (x ∷ xs) t h =
    elim (p x) as (λ b. p x ≡ b → Among t (cond b (x ∷ filter p xs) (filter p xs)) → Among t (x ∷ xs) × IsTrue (p t)) [
      | true ↦ λ e m. ⊎_elim (λ s. (inl s, ap p (sym s) ∙ e)) (λ n. let r = filter_has p xs t n in (inr r.0, r.1)) m
      | false ↦ λ e m. let r = filter_has p xs t m in (inr r.0, r.1)
    ] refl h

-- an element of the list that passes the test is in the filtered list
pub filter_takes : {T : Type 0} (p : T → Bool) (xs : List T) (t : T) → Among t xs → IsTrue (p t) → Among t (filter p xs)
filter_takes p [] t h k = absurd h
filter_takes p (x ∷ xs) t h k =
    elim (p x) as (λ b. p x ≡ b → Among t (cond b (x ∷ filter p xs) (filter p xs))) [
      | true ↦ λ e. ⊎_elim (λ s. inl s) (λ n. inr (filter_takes p xs t n k)) h
      | false ↦ λ e. ⊎_elim (λ s. absurd (true≢false (sym k ∙ ap p (sym s) ∙ e))) (λ n. filter_takes p xs t n k) h
    ] refl

-- a filter makes no list longer
pub filter_shorter : {T : Type 0} (p : T → Bool) (xs : List T) → length (filter p xs) ≤ length xs
filter_shorter p [] = omega arith
filter_shorter p (x ∷ xs) =
    let h = filter_shorter p xs in
    elim (p x) as (λ b. length (cond b (x ∷ filter p xs) (filter p xs)) ≤ length (x ∷ xs)) [
      | true ↦ omega (arith, h)
      | false ↦ omega (arith, h)
    ]

-- a filtered list that is as long as the list is the whole list
pub filter_whole : {T : Type 0} (p : T → Bool) (xs : List T) → length (filter p xs) ≡ length xs → filter p xs ≡ xs
filter_whole p [] e = refl
filter_whole p (x ∷ xs) e =
    elim (p x) as (λ b. length (cond b (x ∷ filter p xs) (filter p xs)) ≡ length (x ∷ xs) → cond b (x ∷ filter p xs) (filter p xs) ≡ x ∷ xs) [
      | true ↦ λ h. ap (λ ys. x ∷ ys) (filter_whole p xs (omega (arith, h)))
      | false ↦ λ h. let s = filter_shorter p xs in absurd (omega (arith, h, s))
    ] e

-- a test that all elements pass is passed by all elements of a filtered list
pub all_filter : {T : Type 0} (q p : T → Bool) (xs : List T) → IsTrue (list_all q xs) → IsTrue (list_all q (filter p xs))
all_filter q p xs a = all_from q (filter p xs) (λ t m. all_at q xs t a (filter_has p xs t m).0)
