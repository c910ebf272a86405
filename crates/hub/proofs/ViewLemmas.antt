-- Lemmas about views, and about lists of them.
use Rattle.std.proofs.Common.{zero, suc, inl, inr, ◌≡◌, ◌≢◌, ℕ, ◌<◌, ◌⊎◌, List, [], ◌∷◌, ◌++◌, length, set, sym, refl, ap, ◌∙◌, subst, ⊎_elim, arith, length-set}
use Rattle.std.specs.Prelude.{Some, slice_get}
use Rattle.std.specs.Option.{unwrap_or}
use Rattle.std.proofs.lemmas.Option.{none-some}
use mathlib.Core.Option.{some, some-injective, some-ne-none}
use lib.ListN.{get_elem?}
use Rattle.atomic_table.proofs.Lists.{at_set}
use Rattle.atomic_table.specs.Table.{rest}
use Rattle.hub.specs.declared.view.Entry.{Entry}
use Rattle.hub.specs.declared.view.View.{View}
use Rattle.hub.specs.Rules.{Agrees, IsRight, AllRight}

module _ {A : Type 0} where
  -- what holds of a new element and of all others holds of each one once it is set
  pub each_set : (P : ℕ → A → Type 0) (l : List A) (id : ℕ) (new : A) → P id new
      → ((j : ℕ) (a : A) → j ≢ id → get_elem? l j ≡ some a → P j a) → (j : ℕ) (a : A) → get_elem? (set l id new) j ≡ some a → P j a
  each_set P l id new mine others j a is = ⊎_elim
      (λ (t : (j ≡ id) × (new ≡ a)). subst (λ (z : ℕ × A). P z.0 z.1) (λ i. (sym t.0 i, t.1 i)) mine)
      (λ (t : (j ≢ id) × (get_elem? l j ≡ some a)). others j a t.0 t.1) (at_set l id j new a is)

  -- what is found in a list with one more at its end is found in the list, or is that one
  at_end : (l : List A) (new a : A) (j : ℕ) → get_elem? (l ++ new ∷ []) j ≡ some a → (get_elem? l j ≡ some a) ⊎ ((j ≡ length l) × (new ≡ a))
  at_end [] new a zero e = inr (refl, some-injective new a e)
  at_end [] new a (suc j) e = absurd (some-ne-none a (sym e))
  at_end (x ∷ xs) new a zero e = inl e
  at_end (x ∷ xs) new a (suc j) e = ⊎_elim (λ t. inl t)
      (λ (t : (j ≡ length xs) × (new ≡ a)). inr (let h = t.0 in omega arith, t.1)) (at_end xs new a j e)

  -- what holds of each element and of one more holds of each in the list with that one at its end
  pub each_end : (P : ℕ → A → Type 0) (l : List A) (new : A) → ((j : ℕ) (a : A) → get_elem? l j ≡ some a → P j a) → P (length l) new
      → (j : ℕ) (a : A) → get_elem? (l ++ new ∷ []) j ≡ some a → P j a
  each_end P l new old last j a is = ⊎_elim (λ (t : get_elem? l j ≡ some a). old j a t)
      (λ (t : (j ≡ length l) × (new ≡ a)). subst (λ (z : ℕ × A). P z.0 z.1) (λ i. (sym t.0 i, t.1 i)) last) (at_end l new a j is)

  -- nothing is found in the empty list
  pub none_at : (P : ℕ → A → Type 0) (j : ℕ) (a : A) → get_elem? [] j ≡ some a → P j a
  none_at P j a is = absurd (some-ne-none a (sym is))

  -- an index at which something is found is below the length
  pub at_below : (l : List A) (i : ℕ) (a : A) → get_elem? l i ≡ some a → i < length l
  at_below [] i a e = absurd (some-ne-none a (sym e))
  at_below (x ∷ xs) zero a e = omega arith
  at_below (x ∷ xs) (suc i) a e = let h = at_below xs i a e in omega arith

  -- what a seat took last stands before the rest
  pub front : (l : List (ℕ × A)) (k : ℕ) (y : A) (r : List (ℕ × A)) → l ≡ (k, y) ∷ r → l ≡ (k, y) ∷ rest l
  front l k y r e = e ∙ ap (λ z. (k, y) ∷ z) (sym (ap rest e))

  same_there : (x p : A) → Some x ≡ Some p → x ≡ p
  same_there x p e = ap (λ o. unwrap_or o x) e

  -- the same as `each_end`, for elements as contracts look them up
  pub each_pushed : (P : ℕ → A → Type 0) (xs : List A) (x : A) → ((k : ℕ) (p : A) → slice_get xs k ≡ Some p → P k p) → P (length xs) x
      → (k : ℕ) (p : A) → slice_get (xs ++ x ∷ []) k ≡ Some p → P k p
  each_pushed P [] x old new zero p e = subst (λ z. P 0 z) (same_there x p e) new
  each_pushed P [] x old new (suc k) p e = absurd (none-some p e)
  each_pushed P (y ∷ xs) x old new zero p e = old zero p e
  each_pushed P (y ∷ xs) x old new (suc k) p e =
      let at : P (suc (length xs)) x = subst (λ n. P n x) (omega arith) new in
      each_pushed (λ n. P (suc n)) xs x (λ n. old (suc n)) at k p e

module _ {E : Type 0} where
  -- a view that agrees with a history still agrees once another pass has made an entry
  pub agrees_more : (v : View E) (log : List (Entry E)) (e : Entry E) → Agrees v log → e.by ≢ v.number → Agrees v (e ∷ log)
  agrees_more v log e a other = (e ∷ a.0, ap (λ h. e ∷ h) a.1, (other, a.2))

  -- a view that has seen the whole history agrees with it
  pub agrees_whole : (v : View E) (log : List (Entry E)) → v.seen ≡ log → Agrees v log
  agrees_whole v log e = ([], sym e, tt)

  -- if one view learns something that is right, and the others are right about the new history,
  -- then all are
  pub right_set : (views : List (View E)) (log after : List (Entry E)) (id : ℕ) (w : View E) → IsRight (length views) after id w
      → ((j : ℕ) (v : View E) → j ≢ id → get_elem? views j ≡ some v → IsRight (length views) after j v) → AllRight (set views id w) after
  right_set views log after id w mine others j v at =
      subst (λ n. IsRight n after j v) (sym (length-set views id w)) (each_set (IsRight (length views) after) views id w mine others j v at)
