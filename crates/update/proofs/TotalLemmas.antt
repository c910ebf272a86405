-- In a list whose groups are neighbours the total of a group is the total of its row and time. So
-- some group's total is too large if and only if the total of some row at some time is.
use Rattle.std.proofs.Common.{◌≡◌, ◌^◌, Bool, true, false, cond, ◌&&◌, List, [], ◌∷◌, ℤ, pos, ◌+ℤ◌, refl, sym, ◌∙◌, ap, subst, ◌⊎◌, inl, inr, ⊎_elim, w64}
use Rattle.std.specs.Prelude.{FitsSigned}
use Rattle.std.specs.Cmp.{IsTotalOrder}
use Rattle.std.specs.Cmp.Rules.{signed_items}
use Rattle.std.proofs.Math.IntN.{+ℤ_idl, +ℤ_idr}
use Rattle.std.proofs.lemmas.Bool.{and_parts, and_from, true≢false}
use Rattle.std.proofs.Math.Dec.{ltb}
use Rattle.std.proofs.Math.Facts.{sfits_lit}
use Rattle.std.proofs.lemmas.Bool.Decides.{Decides-ltb}
use lib.Signed.{mag}
use Rattle.std.specs.declared.cmp.Ordering.{Ordering}
use Rattle.std.specs.declared.cmp.Ordering.TheVariants.{Equal}
use Rattle.std.specs.Ordering.{is_eq}
use Rattle.std.proofs.lemmas.Cmp.{tied_itself}
use Rattle.lattice.specs.Times.{Times}
use Rattle.lattice.specs.Order.{PartialOrderLaws}
use Rattle.update.specs.declared.change.Update.{Update}
use Rattle.update.specs.Bags.{same_row}
use Rattle.update.specs.Updates.{total_at}
use Rattle.update.specs.Groups.{is_same, groups_of, AllFit}
use Rattle.update.proofs.GroupLemmas.{AreOther, AreNeighbours, skip_second, same_passes, more_of}

fits_or_not : (n : ℤ) → FitsSigned w64 n ⊎ (FitsSigned w64 n → ⊥)
fits_or_not n =
    elim (ltb (mag n) (2 ^ 63)) as (λ b. ltb (mag n) (2 ^ 63) ≡ b → FitsSigned w64 n ⊎ (FitsSigned w64 n → ⊥)) [
      | true ↦ λ e. inl (record { sfits = (Decides-ltb (mag n) (2 ^ 63)).0 e })
      | false ↦ λ e. inr (λ f. true≢false (sym ((Decides-ltb (mag n) (2 ^ 63)).1 f.sfits) ∙ e))
    ] refl

-- 0 is a 64-bit number
pub fits_zero : FitsSigned w64 (pos 0)
fits_zero = sfits_lit tt

module _ {T : Type 0} {times : Times T} {cmp : T → T → Ordering} (o : PartialOrderLaws times) (total : IsTotalOrder cmp) (exact : (s t : T) → cmp s t ≡ Equal → s ≡ t) where
  -- the update has this row and time
  abbrev is_at : List ℤ → T → Update T → Bool
  is_at row t u = same_row u.row row && (times.below u.time t && times.below t u.time)

  -- the total of a row and time, if u is the first update of the current group and n is its total
  -- so far
  abbrev with_hand : List ℤ → T → Update T → ℤ → List (Update T) → ℤ
  with_hand row t u n vs = cond (is_at row t u) n (pos 0) +ℤ total_at times row t vs

  apart : (u w : Update T) → is_same cmp u w ≡ false → (b : Bool) → is_at u.row u.time w ≡ b → b ≡ false
  apart u w l true e =
      let parts = and_parts (same_row w.row u.row) (times.below w.time u.time && times.below u.time w.time) e in
      let ties = and_parts (times.below w.time u.time) (times.below u.time w.time) parts.1 in
      let time : u.time ≡ w.time = o.antisymmetric u.time w.time ties.1 ties.0 in
      let row : w.row ≡ u.row = (signed_items w.row u.row).0 parts.0 in
      let same = and_from (is_eq (cmp u.time w.time)) (same_row u.row w.row) (ap (λ t. is_eq (cmp t w.time)) time ∙ ap is_eq (tied_itself total w.time)) ((signed_items u.row w.row).1 (sym row)) in
      absurd (true≢false (sym same ∙ l))
  apart u w l false e = refl

  -- updates of another row or time add nothing to u's total
  none_after : (u : Update T) (ws : List (Update T)) → AreOther cmp u ws → total_at times u.row u.time ws ≡ pos 0
  none_after u [] a = refl
  none_after u (w ∷ ws) a =
      rw (apart u w a.0 (is_at u.row u.time w) refl, none_after u ws a.1) refl

  at_its_own : (row : List ℤ) (t : T) (u : Update T) (ws : List (Update T)) → is_at row t u ≡ true → AreOther cmp u ws → total_at times row t ws ≡ pos 0
  at_its_own row t u ws h a =
      let there = and_parts (same_row u.row row) (times.below u.time t && times.below t u.time) h in
      let ties = and_parts (times.below u.time t) (times.below t u.time) there.1 in
      let time : u.time ≡ t = o.antisymmetric u.time t ties.0 ties.1 in
      let same : u.row ≡ row = (signed_items u.row row).0 there.0 in
      ap (λ r. total_at times r t ws) (sym same) ∙ ap (λ s. total_at times u.row s ws) (sym time) ∙ none_after u ws a

  grown : (row : List ℤ) (t : T) (u v : Update T) (n : ℤ) (vs : List (Update T)) → is_same cmp u v ≡ true → with_hand row t u (n +ℤ v.diff) vs ≡ with_hand row t u n (v ∷ vs)
  grown row t u v n vs e =
      more_of exact (is_at row t u) (is_at row t v) n v.diff (total_at times row t vs) (same_passes exact (λ r s. same_row r row && (times.below s t && times.below t s)) u v e)

  at_itself : (u : Update T) → is_at u.row u.time u ≡ true
  at_itself u =
      and_from (same_row u.row u.row) (times.below u.time u.time && times.below u.time u.time) ((signed_items u.row u.row).1 refl)
      (and_from (times.below u.time u.time) (times.below u.time u.time) (o.reflexive u.time) (o.reflexive u.time))

  -- a total that fits still fits without a group that has ended
  later : (row : List ℤ) (t : T) (u : Update T) (n : ℤ) (ws : List (Update T)) → AreOther cmp u ws → FitsSigned w64 (with_hand row t u n ws) → FitsSigned w64 (total_at times row t ws)
  later row t u n ws a f =
      elim (is_at row t u) as (λ b. is_at row t u ≡ b → FitsSigned w64 (cond b n (pos 0) +ℤ total_at times row t ws) → FitsSigned w64 (total_at times row t ws)) [
        | true ↦ λ h g. rw (at_its_own row t u ws h a) fits_zero
        | false ↦ λ h g. subst (FitsSigned w64) (+ℤ_idl (total_at times row t ws)) g
      ] refl f

  -- if each group's total fits, then the total of each row at each time does
  pub totals_fit : (u : Update T) (n : ℤ) (vs : List (Update T)) → AreNeighbours cmp (u ∷ vs) → AllFit (groups_of cmp u n vs) → (row : List ℤ) (t : T) → FitsSigned w64 (with_hand row t u n vs)
  totals_fit u n [] a f row t =
      elim (is_at row t u) as (λ b. FitsSigned w64 (cond b n (pos 0) +ℤ pos 0)) [
        | true ↦ subst (FitsSigned w64) (sym (+ℤ_idr n)) f.0
        | false ↦ fits_zero
      ]
  totals_fit u n (v ∷ vs) a f row t =
      elim (is_same cmp u v) as (λ b. is_same cmp u v ≡ b → AllFit (cond b (groups_of cmp u (n +ℤ v.diff) vs) (record { first = u; total = n } ∷ groups_of cmp v v.diff vs)) → FitsSigned w64 (with_hand row t u n (v ∷ vs))) [
        | true ↦ λ e g. subst (FitsSigned w64) (grown row t u v n vs e) (totals_fit u (n +ℤ v.diff) vs (skip_second exact u v vs e a) g row t)
        | false ↦ λ e g.
            let later = totals_fit v v.diff vs a.1 g.1 row t in
            elim (is_at row t u) as (λ b. is_at row t u ≡ b → FitsSigned w64 (cond b n (pos 0) +ℤ total_at times row t (v ∷ vs))) [
              | true ↦ λ h. rw (at_its_own row t u (v ∷ vs) h (e, a.0 e)) (subst (FitsSigned w64) (sym (+ℤ_idr n)) g.0)
              | false ↦ λ h. subst (FitsSigned w64) (sym (+ℤ_idl (total_at times row t (v ∷ vs)))) later
            ] refl
      ] refl f

  -- if some group's total does not fit, then the total of some row at some time does not
  pub some_large : (u : Update T) (n : ℤ) (vs : List (Update T)) → AreNeighbours cmp (u ∷ vs) → (AllFit (groups_of cmp u n vs) → ⊥) → (row : List ℤ) × (t : T) × (FitsSigned w64 (with_hand row t u n vs) → ⊥)
  some_large u n [] a f =
      (u.row, u.time, λ g. f (subst (FitsSigned w64) (ap (λ b. cond b n (pos 0) +ℤ pos 0) (at_itself u) ∙ +ℤ_idr n) g, tt))
  some_large u n (v ∷ vs) a f =
      elim (is_same cmp u v) as (λ b. is_same cmp u v ≡ b → (AllFit (cond b (groups_of cmp u (n +ℤ v.diff) vs) (record { first = u; total = n } ∷ groups_of cmp v v.diff vs)) → ⊥) → (row : List ℤ) × (t : T) × (FitsSigned w64 (with_hand row t u n (v ∷ vs)) → ⊥)) [
        | true ↦ λ e g.
            let r = some_large u (n +ℤ v.diff) vs (skip_second exact u v vs e a) g in
            (r.0, r.1, λ h. r.2 (subst (FitsSigned w64) (sym (grown r.0 r.1 u v n vs e)) h))
        | false ↦ λ e g.
            let after : AreOther cmp u (v ∷ vs) = (e, a.0 e) in
            ⊎_elim
            (λ fits.
            let r = some_large v v.diff vs a.1 (λ k. g (fits, k)) in
            (r.0, r.1, λ h. r.2 (later r.0 r.1 u n (v ∷ vs) after h)))
            (λ large. (u.row, u.time, λ h. large (subst (FitsSigned w64) (ap (λ b. cond b n (pos 0) +ℤ total_at times u.row u.time (v ∷ vs)) (at_itself u) ∙ ap (λ x. n +ℤ x) (none_after u (v ∷ vs) after) ∙ +ℤ_idr n) h)))
            (fits_or_not n)
      ] refl f
