-- When a list is sealed as it stands: each update comes after the one before it, and each has a
-- difference. Then each total is a difference, so none is too large.
use Rattle.std.proofs.Common.{◌≡◌, ◌≢◌, ℕ, suc, ◌<◌, true, false, cond, ◌&&◌, List, [], ◌∷◌, length, get_or, ℤ, pos, ◌+ℤ◌, FitsSigned, w64, refl, sym, subst, ◌∙◌, arith, rules}
use Rattle.std.specs.List.{All, AllByRecursion}
use Rattle.std.specs.List.Sorted.{IsStrictlySortedBy}
use Rattle.std.specs.Cmp.{IsTotalOrder}
use Rattle.std.specs.declared.cmp.Ordering.{Ordering}
use Rattle.std.specs.declared.cmp.Ordering.TheVariants.{Less}
use Rattle.std.proofs.Math.IntN.{+ℤ_idr, +ℤ_idl}
use Rattle.lattice.specs.Times.{Times}
use Rattle.lattice.specs.Order.{PartialOrderLaws}
use Rattle.update.specs.declared.change.Update.{Update}
use Rattle.update.specs.Bags.{same_row}
use Rattle.update.specs.Updates.{total_at, HasLargeTotal}
use Rattle.update.proofs.UniqueLemmas.{meets_row, meets_time}
use Rattle.batch.specs.Batches.{by_row_then_time, IsSealed}
use Rattle.batch.proofs.SealLemmas.{by_row_total}
use Rattle.batch.proofs.TieLemmas.{none_after}

-- a property of the element at each place is one of each element
pub each_by_place : {X : Type 0} (P : X → Type 0) (xs : List X) → All P xs → AllByRecursion P xs
each_by_place P [] a = tt
each_by_place P (x ∷ xs) a = (a 0 x (omega arith), each_by_place P xs (λ k d h. a (suc k) d (omega (arith, h))))

module _ {X : Type 0} {cmp : X → X → Ordering} (total : IsTotalOrder cmp) where
  behind_all : (x y : X) → cmp x y ≡ Less → (ys : List X) → AllByRecursion (λ z. cmp y z ≡ Less) ys → AllByRecursion (λ z. cmp x z ≡ Less) ys
  behind_all x y l [] a = tt
  behind_all x y l (z ∷ ys) a = (total.trans x y z l a.0, behind_all x y l ys a.1)

  -- a list is sorted if each element comes after the one before it
  pub sorted_by_steps : (xs : List X) → ((k : ℕ) (d : X) → suc k < length xs → cmp (get_or xs k d) (get_or xs (suc k) d) ≡ Less) → IsStrictlySortedBy cmp xs
  unfolding IsStrictlySortedBy
  sorted_by_steps [] h = tt
  sorted_by_steps (x ∷ []) h = (tt, tt)
  sorted_by_steps (x ∷ y ∷ xs) h =
      let first = h 0 x (omega arith) in
      let rest = sorted_by_steps (y ∷ xs) (λ k d l. h (suc k) d (omega (arith, l))) in
      ((first, behind_all x y first xs rest.0), rest)

module _ {T : Type 0} {times : Times T} {cmp : T → T → Ordering} (o : PartialOrderLaws times) (total : IsTotalOrder cmp) where
  -- each total is a difference or 0
  total_fits : (row : List ℤ) (t : T) (us : List (Update T)) → IsStrictlySortedBy (by_row_then_time cmp) us → AllByRecursion (λ u. FitsSigned w64 u.diff) us → FitsSigned w64 (total_at times row t us)
  unfolding IsStrictlySortedBy
  total_fits row t [] s f = search rules
  total_fits row t (x ∷ us) s f =
      let y : Update T = record { time = t; row = row; diff = x.diff } in
      elim (same_row x.row row && (times.below x.time t && times.below t x.time)) as (λ b. same_row x.row row && (times.below x.time t && times.below t x.time) ≡ b → FitsSigned w64 (total_at times row t (x ∷ us))) [
        | true ↦ λ e.
            let none : total_at times row t us ≡ pos 0 =
            subst (λ r. total_at times r t us ≡ pos 0) (meets_row o y x e)
            (subst (λ z. total_at times x.row z us ≡ pos 0) (meets_time o y x e) (none_after o total x us s.0)) in
            let whole : total_at times row t (x ∷ us) ≡ x.diff = (λ i. cond (e i) x.diff (pos 0) +ℤ none i) ∙ +ℤ_idr x.diff in
            subst (FitsSigned w64) (sym whole) f.0
        | false ↦ λ e.
            let whole : total_at times row t (x ∷ us) ≡ total_at times row t us = (λ i. cond (e i) x.diff (pos 0) +ℤ total_at times row t us) ∙ +ℤ_idl (total_at times row t us) in
            subst (FitsSigned w64) (sym whole) (total_fits row t us s.1 f.1)
      ] refl

  -- so none is too large
  pub sealed_fits : (us : List (Update T)) → IsStrictlySortedBy (by_row_then_time cmp) us → AllByRecursion (λ u. FitsSigned w64 u.diff) us → HasLargeTotal times us → ⊥
  sealed_fits us s f large = large.2 (total_fits large.0 large.1 us s f)

  -- a list that was looked at from place to place is sealed
  pub sealed_by_steps : (us : List (Update T)) → All (λ u. u.diff ≢ pos 0) us → ((k : ℕ) (d : Update T) → suc k < length us → by_row_then_time cmp (get_or us k d) (get_or us (suc k) d) ≡ Less) → IsSealed cmp us
  sealed_by_steps us nonzero behind = record {
    ascending = sorted_by_steps (by_row_total total) us behind;
    nonzero = each_by_place (λ u. u.diff ≢ pos 0) us nonzero;
  }

  pub sealed_fits_by_steps : (us : List (Update T)) → All (λ u. FitsSigned w64 u.diff) us → ((k : ℕ) (d : Update T) → suc k < length us → by_row_then_time cmp (get_or us k d) (get_or us (suc k) d) ≡ Less) → HasLargeTotal times us → ⊥
  sealed_fits_by_steps us fits behind = sealed_fits us (sorted_by_steps (by_row_total total) us behind) (each_by_place (λ u. FitsSigned w64 u.diff) us fits)
