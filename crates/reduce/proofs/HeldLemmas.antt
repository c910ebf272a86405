-- The frontier of all pending times.
use Rattle.std.proofs.Common.{◌≡◌, ◌≢◌, ℕ, zero, suc, ◌+◌, ◌<◌, ◌≤◌, Bool, true, false, cond, ◌||◌, List, [], ◌∷◌, ◌++◌, take, length, get_or, slice_get, Option, Some, None, IsSomeAnd, refl, sym, ap, subst, ◌∙◌, inl, inr, ⊎_elim, arith, take_all}
use Rattle.std.specs.Prelude.{ℤ, ◌↔◌}
use Rattle.std.specs.List.{list_any}
use Rattle.std.proofs.lemmas.Bool.{false≢true}
use Rattle.std.proofs.lemmas.List.{take_more}
use Rattle.lattice.specs.Times.{Times}
use Rattle.lattice.specs.Frontiers.{is_beyond}
use Rattle.update.specs.Bags.{same_row}
use Rattle.joined_times.specs.Joined.{Member}
use Rattle.reduce.specs.Histories.{HistoryState, AreKeysApart, IsWaiting, due_of}
use Rattle.reduce.proofs.HistoryLemmas.{of_there}
use Rattle.joined_times.proofs.MemberLemmas.{in_either, member_at}
use Rattle.reduce.proofs.RenewLemmas.{some_there}
use Rattle.reduce.proofs.VisitLemmas.{item_is}

-- one element more is looked at
pub any_more : {X : Type 0} (p : X → Bool) (xs ys : List X) → list_any p (xs ++ ys) ≡ (list_any p xs || list_any p ys)
any_more p [] ys = refl
any_more p (x ∷ xs) ys = step (p x) (any_more p xs ys)
  where
    step : (b : Bool) → list_any p (xs ++ ys) ≡ (list_any p xs || list_any p ys) → (b || list_any p (xs ++ ys)) ≡ ((b || list_any p xs) || list_any p ys)
    step true h = refl
    step false h = h

pub or_nothing : (b : Bool) → (b || false) ≡ b
or_nothing true = refl
or_nothing false = refl

module _ {T : Type 0} (times : Times T) where
  -- the history at a place, if there is one, has a pending time at or before t
  abbrev pub under_in : T → Option (HistoryState T) → Bool
  under_in t None = false
  under_in t (Some h) = is_beyond times h.due t

  abbrev pub pending_under : List (HistoryState T) → T → ℕ → Bool
  pending_under hs t i = under_in t (slice_get hs i)

  pub there_under : (hs : List (HistoryState T)) (t : T) (i : ℕ) (h : HistoryState T) (due : List T) → IsSomeAnd (slice_get hs i) (λ x. h ≡ x) → due ≡ h.due → is_beyond times due t ≡ pending_under hs t i
  there_under [] t i h due e d = absurd e
  there_under (x ∷ hs) t zero h due e d = ap (λ z. is_beyond times z t) (d ∙ ap (λ (z : HistoryState T). z.due) e)
  there_under (x ∷ hs) t (suc i) h due e d = there_under hs t i h due e d

  any_is : {X : Type 0} (p : X → Bool) (xs : List X) → list_any p xs ≡ true → (x : X) × Member x xs × (p x ≡ true)
  any_is p [] h = absurd (false≢true h)
  any_is {X} p (x ∷ xs) h = step (p x) refl h (any_is p xs)
    where
      step : (b : Bool) → p x ≡ b → (b || list_any p xs) ≡ true → (list_any p xs ≡ true → (y : X) × Member y xs × (p y ≡ true)) → (y : X) × Member y (x ∷ xs) × (p y ≡ true)
      step true e h ih = (x, inl refl, e)
      step false e h ih = let r = ih h in (r.0, inr r.1, r.2)

  is_any : {X : Type 0} (p : X → Bool) (xs : List X) (x : X) → Member x xs → p x ≡ true → list_any p xs ≡ true
  is_any p (y ∷ xs) x (inl e) h = rw (ap p (sym e) ∙ h) refl
  is_any p (y ∷ xs) x (inr m) h = step (p y) (is_any p xs x m h)
    where
      step : (b : Bool) → list_any p xs ≡ true → (b || list_any p xs) ≡ true
      step true h = refl
      step false h = h
  is_any p [] x m h = absurd m

  some_of : (key : List ℤ) (s : T) (hs : List (HistoryState T)) → Member s (due_of key hs) → (i : ℕ) × (h : HistoryState T) × (slice_get hs i ≡ Some h) × Member s h.due
  some_of key s [] m = absurd m
  some_of key s (h ∷ hs) m = step (same_row h.key key) m (some_of key s hs)
    where
      step : (b : Bool) → Member s ((cond b h.due []) ++ due_of key hs) → (Member s (due_of key hs) → (i : ℕ) × (g : HistoryState T) × (slice_get hs i ≡ Some g) × Member s g.due) → (i : ℕ) × (g : HistoryState T) × (slice_get (h ∷ hs) i ≡ Some g) × Member s g.due
      step true m ih = ⊎_elim (λ a. (0, h, refl, a)) (λ b. let r = ih b in (suc r.0, r.1, r.2, r.3)) (in_either s h.due (due_of key hs) m)
      step false m ih = let r = ih m in (suc r.0, r.1, r.2, r.3)

  pub held_is : (hs : List (HistoryState T)) → AreKeysApart hs → (places : List ℕ) → IsWaiting hs places → (t : T) → list_any (pending_under hs t) places ≡ true ↔ ((key : List ℤ) × (s : T) × Member s (due_of key hs) × (times.below s t ≡ true))
  held_is hs apart places w t = (there, back)
    where
      there : list_any (pending_under hs t) places ≡ true → (key : List ℤ) × (s : T) × Member s (due_of key hs) × (times.below s t ≡ true)
      there h =
          let p = any_is (pending_under hs t) places h in
          at p.0 (slice_get hs p.0) refl p.2
        where
          at : (i : ℕ) (o : Option (HistoryState T)) → slice_get hs i ≡ o → under_in t o ≡ true → (key : List ℤ) × (s : T) × Member s (due_of key hs) × (times.below s t ≡ true)
          at i None e u = absurd (false≢true u)
          at i (Some h) e u =
              let s = any_is (λ s. times.below s t) h.due u in
              (h.key, s.0, subst (Member s.0) (sym (of_there (λ h. h.due) hs i h apart e)) s.1, s.2)

      not_nothing : (s : T) (ts : List T) → Member s ts → ts ≢ []
      not_nothing s ts m e = subst (Member s) e m

      back : (key : List ℤ) × (s : T) × Member s (due_of key hs) × (times.below s t ≡ true) → list_any (pending_under hs t) places ≡ true
      back r =
          let a = some_of r.0 r.1 hs r.2 in
          is_any (pending_under hs t) places a.0 ((w.exact a.0).1 (some_there (λ h. h.due ≢ []) hs a.0 a.1 a.2 (not_nothing r.1 a.1.due a.3)))
          (ap (under_in t) a.2 ∙ is_any (λ s. times.below s t) a.1.due r.1 a.3 r.3)

  -- a place that waits is one of a history
  pub within : (hs : List (HistoryState T)) (places : List ℕ) → IsWaiting hs places → (i : ℕ) → i < length places → get_or places i 0 < length hs
  within hs places w i l = inside hs (get_or places i 0) ((w.exact (get_or places i 0)).0 (member_at places i (get_or places i 0) l (item_is places i 0 l)))
    where
      inside : (hs : List (HistoryState T)) (p : ℕ) → IsSomeAnd (slice_get hs p) (λ h. h.due ≢ []) → p < length hs
      inside [] p s = absurd s
      inside (h ∷ hs) zero s = omega arith
      inside (h ∷ hs) (suc p) s = let q = inside hs p s in omega (arith, q)

  -- one key more
  pub held_more : (hs : List (HistoryState T)) (places : List ℕ) (i : ℕ) → i < length places → (h : HistoryState T) (due : List T) (old new : List T)
      → IsSomeAnd (slice_get hs (get_or places i 0)) (λ x. h ≡ x) → due ≡ h.due
      → ((t : T) → is_beyond times old t ≡ list_any (pending_under hs t) (take i places))
      → ((t : T) → is_beyond times new t ≡ (is_beyond times old t || is_beyond times due t))
      → (t : T) → is_beyond times new t ≡ list_any (pending_under hs t) (take (i + 1) places)
  held_more hs places i l h due old new e d was is t =
      is t
      ∙ (ap (λ b. b || is_beyond times due t) (was t)
      ∙ (ap (λ b. list_any (pending_under hs t) (take i places) || b) (there_under hs t (get_or places i 0) h due e d ∙ sym (or_nothing (pending_under hs t (get_or places i 0))))
      ∙ (sym (any_more (pending_under hs t) (take i places) (get_or places i 0 ∷ []))
      ∙ ap (list_any (pending_under hs t)) (sym (take_more places i 0 l)))))

  pub held_all : (hs : List (HistoryState T)) → AreKeysApart hs → (places : List ℕ) → IsWaiting hs places → (i : ℕ) → length places ≤ i → (held : List T)
      → ((t : T) → is_beyond times held t ≡ list_any (pending_under hs t) (take i places))
      → (t : T) → is_beyond times held t ≡ true ↔ ((key : List ℤ) × (s : T) × Member s (due_of key hs) × (times.below s t ≡ true))
  held_all hs apart places w i l held is t =
      let e : is_beyond times held t ≡ list_any (pending_under hs t) places = is t ∙ ap (list_any (pending_under hs t)) (take_all i places l) in
      let r = held_is hs apart places w t in
      ((λ h. r.0 (sym e ∙ h)), (λ x. e ∙ r.1 x))
