-- A merge that moves times keeps `IsMerging` through each update that it takes in, and each row
-- that it finishes.
use Rattle.std.proofs.Common.{◌≡◌, ◌≢◌, Bool, true, false, ◌&&◌, List, [], ◌∷◌, ◌++◌, IsTrue, ℤ, pos, ◌+ℤ◌, refl, sym, ap, ◌∙◌, subst, append_assoc, arith}
use Rattle.std.specs.Prelude.{unsigned_abs, cond, FitsSigned}
use Rattle.std.specs.Int.{w64}
use Rattle.update.proofs.TotalLemmas.{fits_zero}
use Rattle.std.specs.List.{AllByRecursion, list_all}
use Rattle.std.specs.List.Sorted.{IsStrictlySortedBy, IsPermutation}
use Rattle.std.specs.Cmp.{IsTotalOrder}
use Rattle.std.specs.Cmp.Lexicographic.{slice_cmp, lists_total, lists_ties}
use Rattle.std.specs.Cmp.Rules.{signed_items}
use Rattle.std.specs.Ordering.{int_cmp, is_eq, ordering_then}
use Rattle.std.specs.declared.cmp.Ordering.{Ordering}
use Rattle.std.specs.declared.cmp.Ordering.TheVariants.{Less, Equal, Greater}
use Rattle.std.proofs.lemmas.Bool.{and_parts, and_from, true≢false, false_from_ne_true}
use Rattle.std.proofs.lemmas.Cmp.{int_cmp_total}
use Rattle.std.proofs.lemmas.Int.{ints}
use Rattle.std.proofs.lemmas.List.{append-nil}
use Rattle.std.proofs.lemmas.List.Folds.{list_all-append}
use Rattle.std.proofs.lemmas.List.Sums.{sum_by-append}
use Rattle.std.proofs.lemmas.List.Sorted.{IsPermutation-append_comm}
use Rattle.std.proofs.lemmas.Map.Keys.{sorted_head, sorted_tail}
use Rattle.update.specs.declared.change.Update.{Update}
use Rattle.update.specs.Bags.{same_row}
use Rattle.update.specs.Updates.{total_where, HasLargeTotal}
use Rattle.update.proofs.SumLemmas.{total_by-append}
use Rattle.update.proofs.ConsolidatedLemmas.{moved_total, moved_among, moved_size}
use Rattle.batch.specs.Batches.{by_row_then_time, IsSealed}
use Rattle.batch.specs.Compaction.{at_representative, compacted, StandFor}
use Rattle.batch.specs.Merges.{IsMerging}
use Rattle.lattice.specs.Times.{Times}

-- ---- rows

-- the order of rows
abbrev pub rows : List ℤ → List ℤ → Ordering
rows r s = slice_cmp int_cmp r s

pub rows_total : IsTotalOrder rows
rows_total = lists_total int_cmp_total

tied_rows : (r s : List ℤ) → rows r s ≡ Equal → r ≡ s
tied_rows r s e = (signed_items r s).0 (lists_ties int_cmp (λ x y. refl) r s ∙ ap is_eq e)

-- a row before one that is at or before a third is before the third
less_then_upto : (r s t : List ℤ) → rows r s ≡ Less → rows s t ≢ Greater → rows r t ≡ Less
less_then_upto r s t l n =
    elim (rows s t) as (λ o. rows s t ≡ o → o ≢ Greater → rows r t ≡ Less) [
      | Less ↦ λ e m. rows_total.trans r s t l e
      | Equal ↦ λ e m. subst (λ z. rows r z ≡ Less) (tied_rows s t e) l
      | Greater ↦ λ e m. absurd (m refl)
    ] refl n

-- a row that is at or before another and is another one is before it
upto_and_other : (r s : List ℤ) → rows r s ≢ Greater → r ≢ s → rows r s ≡ Less
upto_and_other r s n d =
    elim (rows r s) as (λ o. rows r s ≡ o → o ≢ Greater → o ≡ Less) [
      | Less ↦ λ e m. refl
      | Equal ↦ λ e m. absurd (d (tied_rows r s e))
      | Greater ↦ λ e m. absurd (m refl)
    ] refl n

less_is_upto : (o : Ordering) → o ≡ Less → o ≢ Greater
less_is_upto Less e f = cc
less_is_upto Equal e f = cc
less_is_upto Greater e f = cc

-- to be at or before is transitive
pub upto_then_upto : (r s t : List ℤ) → rows r s ≢ Greater → rows s t ≢ Greater → rows r t ≢ Greater
upto_then_upto r s t n k =
    elim (rows r s) as (λ o. rows r s ≡ o → o ≢ Greater → rows r t ≢ Greater) [
      | Less ↦ λ e m. less_is_upto (rows r t) (less_then_upto r s t e k)
      | Equal ↦ λ e m. subst (λ z. rows z t ≢ Greater) (sym (tied_rows r s e)) k
      | Greater ↦ λ e m. absurd (m refl)
    ] refl n

equal_is_upto : (o : Ordering) → is_eq o ≡ true → o ≢ Greater
equal_is_upto Less e f = cc
equal_is_upto Equal e f = cc
equal_is_upto Greater e f = true≢false (sym e)

-- a row is at or before itself
upto_itself : (r : List ℤ) → rows r r ≢ Greater
upto_itself r = equal_is_upto (rows r r) (sym (lists_ties int_cmp (λ x y. refl) r r) ∙ (signed_items r r).1 refl)

first_upto : (a b : Ordering) → ordering_then a b ≡ Less → a ≢ Greater
first_upto Less b e f = cc
first_upto Equal b e f = cc
first_upto Greater b e f = cc

first_decides : (a b : Ordering) → a ≡ Less → ordering_then a b ≡ Less
first_decides Less b e = refl
first_decides Equal b e = cc
first_decides Greater b e = cc

-- ---- properties of all elements

module _ {X : Type 0} (P Q : X → Type 0) where
  weaker : ((x : X) → P x → Q x) → (xs : List X) → AllByRecursion P xs → AllByRecursion Q xs
  weaker f [] a = tt
  weaker f (x ∷ xs) a = (f x a.0, weaker f xs a.1)

both : {X : Type 0} (P : X → Type 0) (xs ys : List X) → AllByRecursion P xs → AllByRecursion P ys → AllByRecursion P (xs ++ ys)
both P [] ys a b = b
both P (x ∷ xs) ys a b = (a.0, both P xs ys a.1 b)

-- ---- lists that stand for others

module _ {T : Type 0} where
  pub stand_itself : (us : List (Update T)) → StandFor us us
  stand_itself us = record { totals = λ p. refl; smaller = omega arith; among = λ p h. h }

  pub stand_in_turn : (us vs ws : List (Update T)) → StandFor us vs → StandFor vs ws → StandFor us ws
  stand_in_turn us vs ws a b = record {
    totals = λ p. a.totals p ∙ b.totals p;
    smaller = let x = a.smaller in let y = b.smaller in omega (arith, x, y);
    among = λ p h. a.among p (b.among p h);
  }

  pub stand_permuted : (us vs : List (Update T)) → IsPermutation us vs → StandFor vs us
  stand_permuted us vs q = record {
    totals = λ p. moved_total us vs q p;
    smaller = let e = moved_size us vs q in omega (arith, e);
    among = λ p h. moved_among us vs q p h;
  }

  pub stand_together : (us vs xs ys : List (Update T)) → StandFor us vs → StandFor xs ys → StandFor (us ++ xs) (vs ++ ys)
  stand_together us vs xs ys a b = record {
    totals = λ p.
        let e = total_by-append (λ (u : Update T). cond (p u.row u.time) u.diff (pos 0)) us xs in
        let f = total_by-append (λ (u : Update T). cond (p u.row u.time) u.diff (pos 0)) vs ys in
        let x = a.totals p in
        let y = b.totals p in
        omega (arith, ints);
    smaller =
        let e = sum_by-append (λ (u : Update T). unsigned_abs u.diff) us xs in
        let f = sum_by-append (λ (u : Update T). unsigned_abs u.diff) vs ys in
        let x = a.smaller in
        let y = b.smaller in
        omega (arith, e, f, x, y);
    among = λ p h.
        let q = λ (u : Update T). p u.row u.time in
        let parts = and_parts (list_all q vs) (list_all q ys) (sym (list_all-append q vs ys) ∙ h) in
        list_all-append q us xs ∙ and_from (list_all q us) (list_all q xs) (a.among p parts.0) (b.among p parts.1);
  }

  -- the order of two parts does not matter
  pub stand_swapped : (us vs : List (Update T)) → StandFor (us ++ vs) (vs ++ us)
  stand_swapped us vs = stand_permuted (vs ++ us) (us ++ vs) (IsPermutation-append_comm vs us)

-- ---- a merge

module _ {T : Type 0} (times : Times T) (since : List T) where
  pub compacted_both : (us vs : List (Update T)) → compacted times since (us ++ vs) ≡ compacted times since us ++ compacted times since vs
  compacted_both [] vs = refl
  compacted_both (u ∷ us) vs = ap (λ ws. at_representative times since u ∷ ws) (compacted_both us vs)

  pub compacted_swapped : (us vs : List (Update T)) → StandFor (compacted times since (us ++ vs)) (compacted times since (vs ++ us))
  compacted_swapped us vs =
      subst (λ ws. StandFor ws (compacted times since (vs ++ us))) (sym (compacted_both us vs))
      (subst (λ ws. StandFor (compacted times since us ++ compacted times since vs) ws) (sym (compacted_both vs us))
      (stand_swapped (compacted times since us) (compacted times since vs)))

module _ {T : Type 0} (times : Times T) (cmp : T → T → Ordering) (since : List T) where
  abbrev merging : (us vs finished in_hand xs ys : List (Update T)) → Type 0
  merging us vs f h xs ys = IsMerging times cmp since us vs f h xs ys

  -- at the beginning of a merge nothing is written and everything is to come
  pub merging_begins : (us vs : List (Update T)) → IsStrictlySortedBy (by_row_then_time cmp) us → IsStrictlySortedBy (by_row_then_time cmp) vs → merging us vs [] [] us vs
  unfolding IsStrictlySortedBy
  merging_begins us vs s t = record {
    at = [];
    sealed = record { ascending = tt; nonzero = tt };
    fits = λ large. large.2 fits_zero;
    before = tt;
    one_row = tt;
    left_rows = first us;
    right_rows = first vs;
    left_sorted = s;
    right_sorted = t;
    stand = stand_itself (compacted times since (us ++ vs));
  }
    where
      upto : (r : List ℤ) → rows [] r ≢ Greater
      upto [] e = cc
      upto (n ∷ r) e = cc

      first : (ws : List (Update T)) → AllByRecursion (λ u. rows [] u.row ≢ Greater) ws
      first [] = tt
      first (w ∷ ws) = (upto w.row, first ws)

  -- the two sources may be exchanged
  pub merging_turned : (us vs f h xs ys : List (Update T)) → merging us vs f h xs ys → merging vs us f h ys xs
  merging_turned us vs f h xs ys m = record {
    at = m.at;
    sealed = m.sealed;
    fits = m.fits;
    before = m.before;
    one_row = m.one_row;
    left_rows = m.right_rows;
    right_rows = m.left_rows;
    left_sorted = m.right_sorted;
    right_sorted = m.left_sorted;
    stand =
        let rest = stand_together f f (h ++ compacted times since (ys ++ xs)) (h ++ compacted times since (xs ++ ys)) (stand_itself f)
        (stand_together h h (compacted times since (ys ++ xs)) (compacted times since (xs ++ ys)) (stand_itself h) (compacted_swapped times since ys xs)) in
        stand_in_turn _ _ _ rest (stand_in_turn _ _ _ m.stand (compacted_swapped times since us vs));
  }

  -- all that comes behind an update in a source is of no earlier row
  pub rows_behind : (x : Update T) (xs : List (Update T)) → IsStrictlySortedBy (by_row_then_time cmp) (x ∷ xs) → AllByRecursion (λ u. rows x.row u.row ≢ Greater) (x ∷ xs)
  rows_behind x xs s =
      (upto_itself x.row, weaker (λ (y : Update T). by_row_then_time cmp x y ≡ Less) (λ y. rows x.row y.row ≢ Greater) (λ y e. first_upto (rows x.row y.row) (cmp x.time y.time) e) xs (sorted_head (by_row_then_time cmp) x xs s))

  -- what is finished stays before a row that is not before the one in hand
  still_before : (at r : List ℤ) → rows at r ≢ Greater → (f : List (Update T)) → AllByRecursion (λ u. rows u.row at ≡ Less) f → AllByRecursion (λ u. rows u.row r ≡ Less) f
  still_before at r n f a = weaker (λ (u : Update T). rows u.row at ≡ Less) (λ u. rows u.row r ≡ Less) (λ u l. less_then_upto u.row at r l n) f a

  -- the next update of one source is taken in hand, if nothing of another row is
  pub merging_taken : (us vs f h xs ys : List (Update T)) (x : Update T) → merging us vs f h (x ∷ xs) ys → AllByRecursion (λ v. rows x.row v.row ≢ Greater) ys → AllByRecursion (λ u. u.row ≡ x.row) h → merging us vs f (h ++ at_representative times since x ∷ []) xs ys
  merging_taken us vs f h xs ys x m n same =
      let behind = rows_behind x xs m.left_sorted in
      record {
        at = x.row;
        sealed = m.sealed;
        fits = m.fits;
        before = still_before m.at x.row m.left_rows.0 f m.before;
        one_row = both (λ (u : Update T). u.row ≡ x.row) h (at_representative times since x ∷ []) same (refl, tt);
        left_rows = behind.1;
        right_rows = n;
        left_sorted = sorted_tail (by_row_then_time cmp) x xs m.left_sorted;
        right_sorted = m.right_sorted;
        stand = subst (λ ws. StandFor (f ++ ws) (compacted times since (us ++ vs))) (sym (append_assoc h (at_representative times since x ∷ []) (compacted times since (xs ++ ys)))) m.stand;
      }

  -- ---- rows and totals

  apart_row : (row : List ℤ) (r : List ℤ) → (r ≡ row → ⊥) → same_row r row ≡ false
  apart_row row r d = false_from_ne_true (same_row r row) (λ e. d ((signed_items r row).0 e))

  none_of : (p : List ℤ → T → Bool) (ws : List (Update T)) → AllByRecursion (λ u. p u.row u.time ≡ false) ws → total_where p ws ≡ pos 0
  none_of p [] a = refl
  none_of p (w ∷ ws) a =
      let first : cond (p w.row w.time) w.diff (pos 0) ≡ pos 0 = ap (λ b. cond b w.diff (pos 0)) a.0 in
      let rest = none_of p ws a.1 in
      λ i. first i +ℤ rest i

  less_is_apart : (r s : List ℤ) → rows r s ≡ Less → r ≡ s → ⊥
  less_is_apart r s l e = self (rows s s) (upto_eq s) (subst (λ z. rows z s ≡ Less) e l)
    where
      upto_eq : (r : List ℤ) → is_eq (rows r r) ≡ true
      upto_eq r = sym (lists_ties int_cmp (λ x y. refl) r r) ∙ (signed_items r r).1 refl

      self : (o : Ordering) → is_eq o ≡ true → o ≡ Less → ⊥
      self Less e d = true≢false (sym e)
      self Equal e d = cc
      self Greater e d = cc

  -- ---- a row is finished

  row_of : (at : List ℤ) (h g : List (Update T)) → AllByRecursion (λ u. u.row ≡ at) h → StandFor g h → AllByRecursion (λ u. u.row ≡ at) g
  row_of at h g a s = back g (s.among (λ r t. same_row r at) (there h a))
    where
      there : (ws : List (Update T)) → AllByRecursion (λ u. u.row ≡ at) ws → IsTrue (list_all (λ (u : Update T). same_row u.row at) ws)
      there [] a = refl
      there (w ∷ ws) a = and_from (same_row w.row at) (list_all (λ (u : Update T). same_row u.row at) ws) ((signed_items w.row at).1 a.0) (there ws a.1)

      back : (ws : List (Update T)) → IsTrue (list_all (λ (u : Update T). same_row u.row at) ws) → AllByRecursion (λ u. u.row ≡ at) ws
      back [] h = tt
      back (w ∷ ws) h =
          let parts = and_parts (same_row w.row at) (list_all (λ (u : Update T). same_row u.row at) ws) h in
          ((signed_items w.row at).0 parts.0, back ws parts.1)

  behind_finished : (at : List ℤ) (f g : List (Update T)) → IsStrictlySortedBy (by_row_then_time cmp) f → AllByRecursion (λ u. rows u.row at ≡ Less) f → IsStrictlySortedBy (by_row_then_time cmp) g → AllByRecursion (λ u. u.row ≡ at) g → IsStrictlySortedBy (by_row_then_time cmp) (f ++ g)
  unfolding IsStrictlySortedBy
  behind_finished at [] g s a t b = t
  behind_finished at (x ∷ f) g s a t b = (
    both (λ y. by_row_then_time cmp x y ≡ Less) f g s.0
        (weaker (λ (y : Update T). y.row ≡ at) (λ y. by_row_then_time cmp x y ≡ Less) (λ y e. first_decides (rows x.row y.row) (cmp x.time y.time) (subst (λ r. rows x.row r ≡ Less) (sym e) a.0)) g b),
    behind_finished at f g s.1 a.1 t b,
  )

  -- what is finished and the row in hand, once that is sealed, are sealed
  sealed_both : (at : List ℤ) (f g : List (Update T)) → IsSealed cmp f → AllByRecursion (λ u. rows u.row at ≡ Less) f → IsSealed cmp g → AllByRecursion (λ u. u.row ≡ at) g → IsSealed cmp (f ++ g)
  sealed_both at f g s a t b = record {
    ascending = behind_finished at f g s.ascending a t.ascending b;
    nonzero = both (λ (u : Update T). u.diff ≢ pos 0) f g s.nonzero t.nonzero;
  }

  -- if no total of what is finished is too large, and none of the row in hand, then none is too
  -- large once that row is finished
  fits_both : (at : List ℤ) (f h g : List (Update T)) → AllByRecursion (λ u. rows u.row at ≡ Less) f → AllByRecursion (λ u. u.row ≡ at) g → StandFor g h → (HasLargeTotal times f → ⊥) → (HasLargeTotal times h → ⊥) → HasLargeTotal times (f ++ g) → ⊥
  fits_both at f h g before mine s fits fit large =
      let row = large.0 in
      let t = large.1 in
      let p : List ℤ → T → Bool = λ r z. same_row r row && (times.below z t && times.below t z) in
      let whole = total_by-append (λ (u : Update T). cond (p u.row u.time) u.diff (pos 0)) f g in
      let same = s.totals p in
      elim (same_row at row) as (λ b. same_row at row ≡ b → ⊥) [
        | true ↦ λ e.
            let is : at ≡ row = (signed_items at row).0 e in
            let none = none_of p f (weaker (λ (u : Update T). rows u.row at ≡ Less) (λ u. p u.row u.time ≡ false) (λ u l. ap (λ b. b && (times.below u.time t && times.below t u.time)) (apart_row row u.row (λ d. less_is_apart u.row at l (d ∙ sym is)))) f before) in
            let all : total_where p (f ++ g) ≡ total_where p h = omega (arith, ints) in
            fit (row, t, λ k. large.2 (subst (FitsSigned w64) (sym all) k))
        | false ↦ λ e.
            let none = none_of p g (weaker (λ (u : Update T). u.row ≡ at) (λ u. p u.row u.time ≡ false) (λ u d. ap (λ b. b && (times.below u.time t && times.below t u.time)) (ap (λ r. same_row r row) d ∙ e)) g mine) in
            let all : total_where p (f ++ g) ≡ total_where p f = omega (arith, ints) in
            fits (row, t, λ k. large.2 (subst (FitsSigned w64) (sym all) k))
      ] refl

  stand_finished : (f h g rest all : List (Update T)) → StandFor g h → StandFor (f ++ (h ++ rest)) all → StandFor ((f ++ g) ++ rest) all
  stand_finished f h g rest all s t =
      subst (λ ws. StandFor ws all) (sym (append_assoc f g rest))
      (stand_in_turn _ _ _ (stand_together f f (g ++ rest) (h ++ rest) (stand_itself f) (stand_together g h rest rest s (stand_itself rest))) t)

  -- the row in hand is finished when the next update is of another row
  pub merging_settled : (us vs f h g xs ys : List (Update T)) (x u : Update T) (hs : List (Update T)) → h ≡ u ∷ hs → u.row ≢ x.row → IsSealed cmp g → StandFor g h → (HasLargeTotal times h → ⊥) → merging us vs f h (x ∷ xs) ys → AllByRecursion (λ v. rows x.row v.row ≢ Greater) ys → merging us vs (f ++ g) [] (x ∷ xs) ys
  merging_settled us vs f h g xs ys x u hs e other sealed s fit m n =
      let at_is : u.row ≡ m.at = (subst (AllByRecursion (λ (w : Update T). w.row ≡ m.at)) e m.one_row).0 in
      let earlier : rows m.at x.row ≡ Less = upto_and_other m.at x.row m.left_rows.0 (λ d. other (at_is ∙ d)) in
      let mine = row_of m.at h g m.one_row s in
      record {
        at = x.row;
        sealed = sealed_both m.at f g m.sealed m.before sealed mine;
        fits = fits_both m.at f h g m.before mine s m.fits fit;
        before = both (λ (w : Update T). rows w.row x.row ≡ Less) f g
            (still_before m.at x.row m.left_rows.0 f m.before)
            (weaker (λ (w : Update T). w.row ≡ m.at) (λ w. rows w.row x.row ≡ Less) (λ w d. subst (λ r. rows r x.row ≡ Less) (sym d) earlier) g mine);
        one_row = tt;
        left_rows = rows_behind x xs m.left_sorted;
        right_rows = n;
        left_sorted = m.left_sorted;
        right_sorted = m.right_sorted;
        stand = stand_finished f h g (compacted times since ((x ∷ xs) ++ ys)) (compacted times since (us ++ vs)) s m.stand;
      }

  -- when nothing is left to come, the row in hand is the last one
  pub merging_ends : (us vs f h g : List (Update T)) → IsSealed cmp g → StandFor g h → merging us vs f h [] [] → IsSealed cmp (f ++ g) × StandFor (f ++ g) (compacted times since (us ++ vs))
  merging_ends us vs f h g sealed s m = (
    sealed_both m.at f g m.sealed m.before sealed (row_of m.at h g m.one_row s),
    subst (λ ws. StandFor ws (compacted times since (us ++ vs))) (append-nil (f ++ g)) (stand_finished f h g [] (compacted times since (us ++ vs)) s m.stand),
  )

  -- lists with the same totals have the same totals that are too large
  large_for : (us vs : List (Update T)) → StandFor us vs → HasLargeTotal times vs → HasLargeTotal times us
  large_for us vs s large =
      (large.0, large.1, λ fit. large.2 (subst (FitsSigned w64) (s.totals (λ r z. same_row r large.0 && (times.below z large.1 && times.below large.1 z))) fit))

  -- and then no total of the whole merge is too large
  pub merging_fits : (us vs f h g : List (Update T)) → IsSealed cmp g → StandFor g h → (HasLargeTotal times h → ⊥) → merging us vs f h [] [] → HasLargeTotal times (compacted times since (us ++ vs)) → ⊥
  merging_fits us vs f h g sealed s fit m large =
      fits_both m.at f h g m.before (row_of m.at h g m.one_row s) s m.fits fit
      (large_for (f ++ g) (compacted times since (us ++ vs)) (merging_ends us vs f h g sealed s m).1 large)

  -- ---- a total that is too large

  -- a total of the row in hand is a total of the whole merge
  pub large_row : (at : List ℤ) (f h rest all : List (Update T)) → AllByRecursion (λ u. rows u.row at ≡ Less) f → AllByRecursion (λ u. u.row ≡ at) h → AllByRecursion (λ u. rows at u.row ≡ Less) rest → StandFor (f ++ (h ++ rest)) all → HasLargeTotal times h → HasLargeTotal times all
  large_row at f h rest all before one behind s large =
      let row = large.0 in
      let t = large.1 in
      let p : List ℤ → T → Bool = λ r z. same_row r row && (times.below z t && times.below t z) in
      elim (same_row at row) as (λ b. same_row at row ≡ b → HasLargeTotal times all) [
        | true ↦ λ e.
            let is : at ≡ row = (signed_items at row).0 e in
            let first = none_of p f (weaker (λ (u : Update T). rows u.row at ≡ Less) (λ u. p u.row u.time ≡ false) (λ u l. ap (λ b. b && (times.below u.time t && times.below t u.time)) (apart_row row u.row (λ d. less_is_apart u.row at l (d ∙ sym is)))) f before) in
            let last = none_of p rest (weaker (λ (u : Update T). rows at u.row ≡ Less) (λ u. p u.row u.time ≡ false) (λ u l. ap (λ b. b && (times.below u.time t && times.below t u.time)) (apart_row row u.row (λ d. less_is_apart at u.row l (is ∙ sym d)))) rest behind) in
            let g = λ (u : Update T). cond (p u.row u.time) u.diff (pos 0) in
            let a = total_by-append g f (h ++ rest) in
            let b = total_by-append g h rest in
            let whole = s.totals p in
            let same : total_where p all ≡ total_where p h = omega (arith, ints) in
            (row, t, λ fit. large.2 (subst (FitsSigned w64) same fit))
        | false ↦ λ e.
            let none = none_of p h (weaker (λ (u : Update T). u.row ≡ at) (λ u. p u.row u.time ≡ false) (λ u d. ap (λ b. b && (times.below u.time t && times.below t u.time)) (ap (λ r. same_row r row) d ∙ e)) h one) in
            absurd (large.2 (subst (FitsSigned w64) (sym none) fits_zero))
      ] refl

  moved_rows : (at : List ℤ) (ws : List (Update T)) → AllByRecursion (λ u. rows at u.row ≡ Less) ws → AllByRecursion (λ u. rows at u.row ≡ Less) (compacted times since ws)
  moved_rows at [] a = tt
  moved_rows at (w ∷ ws) a = (a.0, moved_rows at ws a.1)

  -- so is one of a row that is finished when the next update is of another row
  pub large_settled : (us vs f h xs ys : List (Update T)) (x u : Update T) (hs : List (Update T)) → h ≡ u ∷ hs → u.row ≢ x.row → merging us vs f h (x ∷ xs) ys → AllByRecursion (λ v. rows x.row v.row ≢ Greater) ys → HasLargeTotal times h → HasLargeTotal times (compacted times since (us ++ vs))
  large_settled us vs f h xs ys x u hs e other m n large =
      let at_is : u.row ≡ m.at = (subst (AllByRecursion (λ (w : Update T). w.row ≡ m.at)) e m.one_row).0 in
      let earlier : rows m.at x.row ≡ Less = upto_and_other m.at x.row m.left_rows.0 (λ d. other (at_is ∙ d)) in
      let on : (ws : List (Update T)) → AllByRecursion (λ v. rows x.row v.row ≢ Greater) ws → AllByRecursion (λ v. rows m.at v.row ≡ Less) ws =
      λ ws a. weaker (λ (v : Update T). rows x.row v.row ≢ Greater) (λ v. rows m.at v.row ≡ Less) (λ v k. less_then_upto m.at x.row v.row earlier k) ws a in
      let rest = both (λ (v : Update T). rows m.at v.row ≡ Less) (x ∷ xs) ys (on (x ∷ xs) (rows_behind x xs m.left_sorted)) (on ys n) in
      large_row m.at f h (compacted times since ((x ∷ xs) ++ ys)) (compacted times since (us ++ vs)) m.before m.one_row (moved_rows m.at ((x ∷ xs) ++ ys) rest) m.stand large

  -- and of the last row
  pub large_last : (us vs f h : List (Update T)) → merging us vs f h [] [] → HasLargeTotal times h → HasLargeTotal times (compacted times since (us ++ vs))
  large_last us vs f h m large = large_row m.at f h [] (compacted times since (us ++ vs)) m.before m.one_row tt m.stand large
