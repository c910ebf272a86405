-- A consolidated list is no larger than another with the same sums, and has no earlier times.
use Rattle.std.proofs.Common.{◌≡◌, ◌≢◌, ◌≤◌, ◌<◌, Bool, true, false, cond, not, List, [], ◌∷◌, IsTrue, refl, sym, ◌∙◌, ap, inl, inr, ◌⊎◌, arith}
use Rattle.std.specs.Prelude.{ℤ, pos, unsigned_abs}
use Rattle.std.specs.List.{filter, list_all}
use Rattle.std.specs.Cmp.{IsTotalOrder}
use Rattle.std.specs.declared.cmp.Ordering.{Ordering}
use Rattle.std.proofs.lemmas.Bool.{false≢true}
use Rattle.std.proofs.lemmas.Int.{ints}
use Rattle.std.proofs.lemmas.List.Sums.{sum_by-cons}
use Rattle.lattice.specs.Times.{Times}
use Rattle.lattice.specs.Order.{PartialOrderLaws}
use Rattle.lattice.specs.Frontiers.{is_beyond}
use Rattle.lattice.proofs.FrontierLemmas.{beyond_up}
use Rattle.antichain.proofs.Lists.{Among, all_at, all_from}
use Rattle.antichain.proofs.AntichainLemmas.{not_true, not_from}
use Rattle.update.specs.Bags.{Alike}
use Rattle.update.specs.Updates.{IsConsolidated, as_of, size}
use Rattle.update.specs.declared.change.Update.{Update}
use Rattle.update.proofs.LeastLemmas.{least_size}
use Rattle.update.proofs.UniqueLemmas.{at_each}

module _ {T : Type 0} where
  filter_all : (us : List (Update T)) → filter (λ u. true) us ≡ us
  filter_all [] = refl
  filter_all (u ∷ us) = ap (λ xs. u ∷ xs) (filter_all us)

  -- nothing passes a test that fails for all
  filter_none : (f : Update T → Bool) (us : List (Update T)) → ((u : Update T) → Among u us → f u ≡ false) → filter f us ≡ []
  filter_none f [] h = refl
  filter_none f (u ∷ us) h = ap (λ b. cond b (u ∷ filter f us) (filter f us)) (h u (inl refl)) ∙ filter_none f us (λ v m. h v (inr m))

  -- an update that passes counts
  size_at_least : (f : Update T → Bool) (us : List (Update T)) (u : Update T) → Among u us → f u ≡ true → unsigned_abs u.diff ≤ size (filter f us)
  size_at_least f [] u m h = absurd m
  size_at_least f (v ∷ us) u m h = by (f v) refl m (λ k. size_at_least f us u k h)
    where
      by : (b : Bool) → f v ≡ b → (v ≡ u) ⊎ Among u us → (Among u us → unsigned_abs u.diff ≤ size (filter f us)) → unsigned_abs u.diff ≤ size (cond b (v ∷ filter f us) (filter f us))
      by true e (inl same) rest =
          let whole = sum_by-cons (λ (w : Update T). unsigned_abs w.diff) v (filter f us) in
          let own = ap (λ (w : Update T). unsigned_abs w.diff) same in
          omega (arith, whole, own)
      by true e (inr later) rest =
          let whole = sum_by-cons (λ (w : Update T). unsigned_abs w.diff) v (filter f us) in
          let more = rest later in
          omega (arith, whole, more)
      by false e (inl same) rest = absurd (false≢true (sym e ∙ (ap f same ∙ h)))
      by false e (inr later) rest = rest later

positive : (a : ℤ) → a ≢ pos 0 → 0 < unsigned_abs a
positive a other = omega (arith, ints, other)

module _ {T : Type 0} {times : Times T} {cmp : T → T → Ordering} (o : PartialOrderLaws times) (total : IsTotalOrder cmp) (us out : List (Update T)) (sums : (t : T) → Alike (as_of times t out) (as_of times t us)) (flat : IsConsolidated cmp out) where
  pub flat_smaller : size out ≤ size us
  flat_smaller =
      let h = least_size o total (λ t. true) out us (λ s t a b. refl) (λ t a. sums t) flat in
      let a = ap size (filter_all out) in
      let b = ap size (filter_all us) in
      omega (arith, h, a, b)

  module _ (F : List T) where
    abbrev early : T → Bool
    early t = not (is_beyond times F t)

    before_early : (s t : T) → IsTrue (times.below s t) → IsTrue (early t) → IsTrue (early s)
    before_early s t le h = not_from (is_beyond times F s) (λ b. not_true (is_beyond times F t) h (beyond_up o F s t b le))

    pub flat_beyond : IsTrue (list_all (λ (u : Update T). is_beyond times F u.time) us) → IsTrue (list_all (λ (u : Update T). is_beyond times F u.time) out)
    flat_beyond h = all_from (λ (u : Update T). is_beyond times F u.time) out (λ u m. by u m (is_beyond times F u.time) refl)
      where
        none : filter (λ (u : Update T). early u.time) us ≡ []
        none = filter_none (λ (u : Update T). early u.time) us (λ u m. ap not (all_at (λ (u : Update T). is_beyond times F u.time) us u h m))

        by : (u : Update T) → Among u out → (b : Bool) → is_beyond times F u.time ≡ b → IsTrue (is_beyond times F u.time)
        by u m true e = e
        by u m false e =
            let small = least_size o total early out us before_early (λ t a. sums t) flat in
            let nothing : size (filter (λ (u : Update T). early u.time) us) ≡ 0 = ap size none in
            let own = size_at_least (λ (u : Update T). early u.time) out u m (ap not e) in
            let some = positive u.diff (at_each (λ (v : Update T). v.diff ≢ pos 0) out u flat.nonzero m) in
            absurd (omega (arith, small, nothing, own, some))
