-- The row in hand of a merge: its updates are those of its changes, and it is finished when the
-- next update is of another row.
use Rattle.std.proofs.Common.{◌≡◌, ◌≢◌, ℕ, suc, zero, ◌<◌, ◌⊎◌, ⊎_elim, false, List, [], ◌∷◌, ◌++◌, length, ℤ, get_or, slice_get, Some, Result, Ok, Err, OnOk, refl, sym, ap, subst, ◌∙◌, arith}
use Rattle.std.specs.Prelude.{IsSomeAnd}
use Rattle.std.specs.List.{AllByRecursion}
use Rattle.std.specs.Cmp.Lexicographic.{slice_cmp}
use Rattle.std.specs.Ordering.{int_cmp}
use Rattle.std.specs.declared.cmp.Ordering.{Ordering}
use Rattle.std.specs.declared.cmp.Ordering.TheVariants.{Greater}
use Rattle.std.proofs.lemmas.Bool.{true≢false}
use Rattle.std.proofs.lemmas.List.{append-nil, map-append}
use Rattle.lattice.specs.Times.{Times}
use Rattle.lattice.specs.Representatives.{representative_of}
use Rattle.update.specs.declared.change.Update.{Update}
use Rattle.update.specs.Updates.{HasLargeTotal}
use Rattle.update.proofs.TotalLemmas.{fits_zero}
use Rattle.batch.specs.declared.changes.Change.{Change}
use Rattle.batch.specs.Batches.{IsSealed}
use Rattle.batch.specs.Changes.{with_row}
use Rattle.batch.specs.Compaction.{at_representative, compacted, StandFor}
use Rattle.batch.specs.Merges.{IsMerging}
use Rattle.batch.proofs.MergeLemmas.{merging_settled, large_settled}
use Rattle.batch.proofs.UnderwayLemmas.{read_is}

-- an element stands at each place
pub stands_at : {X : Type 0} (xs : List X) (i : ℕ) → i < length xs → (x : X) × (slice_get xs i ≡ Some x)
stands_at [] i h = absurd (omega (arith, h))
stands_at (x ∷ xs) zero h = (x, refl)
stands_at (x ∷ xs) (suc i) h = stands_at xs i (omega (arith, h))

-- an element that stands at a place
pub place_of : {X : Type 0} (xs : List X) (i : ℕ) (x : X) → slice_get xs i ≡ Some x → x ≡ get_or xs i x
place_of xs i x e = read_is xs i x (subst (λ o. IsSomeAnd o (λ y. x ≡ y)) (sym e) refl)

-- what is said of the element at a place
pub said_of : {X : Type 0} (P : X → Type 0) (xs : List X) (i : ℕ) (x : X) → slice_get xs i ≡ Some x → IsSomeAnd (slice_get xs i) P → P x
said_of P xs i x e h = subst (λ o. IsSomeAnd o P) e h

pub say_of : {X : Type 0} (P : X → Type 0) (xs : List X) (i : ℕ) → i < length xs → ((x : X) → P x) → IsSomeAnd (slice_get xs i) P
say_of P [] i h f = absurd (omega (arith, h))
say_of P (x ∷ xs) zero h f = f x
say_of P (x ∷ xs) (suc i) h f = say_of P xs i (omega (arith, h)) f

pub say_more : {X : Type 0} (P Q : X → Type 0) (xs : List X) (i : ℕ) → ((x : X) → P x → Q x) → IsSomeAnd (slice_get xs i) P → IsSomeAnd (slice_get xs i) Q
say_more P Q [] i f h = absurd h
say_more P Q (x ∷ xs) zero f h = f x h
say_more P Q (x ∷ xs) (suc i) f h = say_more P Q xs i f h

-- a list of no elements
pub none_of_length : {X : Type 0} (xs : List X) → length xs ≡ 0 → xs ≡ []
none_of_length [] e = refl
none_of_length (x ∷ xs) e = absurd (omega (arith, e))

module _ {T : Type 0} where
  -- all updates in hand have its row
  pub rows_in_hand : (row r : List ℤ) (cs : List (Change T)) → row ≡ r → AllByRecursion (λ u. u.row ≡ r) (with_row row cs)
  rows_in_hand row r [] e = tt
  rows_in_hand row r (c ∷ cs) e = (e, rows_in_hand row r cs e)

  -- what stands for no updates is none
  none_for_none : (us : List (Update T)) → StandFor us [] → us ≡ []
  none_for_none [] s = refl
  none_for_none (u ∷ us) s = absurd (true≢false (sym (s.among (λ r t. false) refl)))

module _ {T : Type 0} (times : Times T) (cmp : T → T → Ordering) (since : List T) where
  -- an update more in hand, at the representative of its time
  pub more_in_hand : (row : List ℤ) (cs new : List (Change T)) (x : Update T) (t : T) (d : ℤ) → row ≡ x.row → t ≡ x.time → d ≡ x.diff
      → new ≡ cs ++ record { time = representative_of times since t; diff = d } ∷ []
      → with_row row new ≡ with_row row cs ++ at_representative times since x ∷ []
  more_in_hand row cs new x t d e f h a =
      let c : Change T = record { time = representative_of times since t; diff = d } in
      let u : record { time = representative_of times since t; row = row; diff = d } ≡ at_representative times since x = λ i. record { time = representative_of times since (f i); row = e i; diff = h i } in
      ap (λ ws. with_row row ws) a
      ∙ map-append (λ (b : Change T). record { time = b.time; row = row; diff = b.diff }) cs (c ∷ [])
      ∙ ap (λ w. with_row row cs ++ w ∷ []) u

  -- the row in hand is finished before an update of another row, or there was none
  pub settled_before : (us vs f g new xs ys : List (Update T)) (x : Update T) (row r : List ℤ) (cs now : List (Change T))
      → (cs ≡ []) ⊎ (x.row ≢ row) → new ≡ f ++ g → now ≡ [] → IsSealed cmp g → StandFor g (with_row row cs)
      → (HasLargeTotal times (with_row row cs) → ⊥)
      → IsMerging times cmp since us vs f (with_row row cs) (x ∷ xs) ys
      → AllByRecursion (λ v. slice_cmp int_cmp x.row v.row ≢ Greater) ys
      → IsMerging times cmp since us vs new (with_row r now) (x ∷ xs) ys
  settled_before us vs f g new xs ys x row r [] now other d k sealed s fit m n =
      let same : new ≡ f = d ∙ ap (λ ws. f ++ ws) (none_for_none g s) ∙ append-nil f in
      subst (λ ws. IsMerging times cmp since us vs ws (with_row r now) (x ∷ xs) ys) (sym same)
      (subst (λ cs. IsMerging times cmp since us vs f (with_row r cs) (x ∷ xs) ys) (sym k) m)
  settled_before us vs f g new xs ys x row r (c ∷ cs) now other d k sealed s fit m n =
      let first : Update T = record { time = c.time; row = row; diff = c.diff } in
      let ne : x.row ≢ row = ⊎_elim (λ e. absurd (let l = ap length e in omega (arith, l))) (λ z. z) other in
      let made = merging_settled times cmp since us vs f (with_row row (c ∷ cs)) g xs ys x first (with_row row cs) refl (λ e. ne (sym e)) sealed s fit m n in
      subst (λ ws. IsMerging times cmp since us vs ws (with_row r now) (x ∷ xs) ys) (sym d)
      (subst (λ cs. IsMerging times cmp since us vs (f ++ g) (with_row r cs) (x ∷ xs) ys) (sym k) made)

  -- a total of it that is too large is one of the whole merge
  pub large_before : (us vs f xs ys : List (Update T)) (x : Update T) (row : List ℤ) (cs : List (Change T))
      → (cs ≡ []) ⊎ (x.row ≢ row)
      → IsMerging times cmp since us vs f (with_row row cs) (x ∷ xs) ys
      → AllByRecursion (λ v. slice_cmp int_cmp x.row v.row ≢ Greater) ys
      → HasLargeTotal times (with_row row cs)
      → HasLargeTotal times (compacted times since (us ++ vs))
  large_before us vs f xs ys x row [] other m n large = absurd (large.2 fits_zero)
  large_before us vs f xs ys x row (c ∷ cs) other m n large =
      let ne : x.row ≢ row = ⊎_elim (λ e. absurd (let l = ap length e in omega (arith, l))) (λ z. z) other in
      let first : Update T = record { time = c.time; row = row; diff = c.diff } in
      large_settled times cmp since us vs f (with_row row (c ∷ cs)) xs ys x first (with_row row cs) refl (λ e. ne (sym e)) m n large

-- what holds in any case holds of a value
pub on_ok : {A E : Type 0} (r : Result A E) (P : Type 0) → P → OnOk r P
on_ok (Ok x) P p = p
on_ok (Err e) P p = tt
