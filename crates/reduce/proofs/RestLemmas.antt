-- Which keys wait after all visits, that their histories are in order, and how much was read.
use Rattle.std.proofs.Common.{◌≡◌, ◌≢◌, ℕ, zero, suc, ◌+◌, Bool, true, false, cond, List, [], ◌∷◌, ◌++◌, map, set, length, slice_get, Some, IsSomeAnd, IsTrue, refl, sym, ap, subst, ◌∙◌, ◌⊎◌, inl, inr, ⊎_elim, arith}
use Rattle.std.specs.Prelude.{flat_map, sum_by, nat_eq, ℤ}
use Rattle.std.specs.List.{filter, list_all}
use Rattle.std.specs.List.Sorted.{IsStrictlySortedBy}
use Rattle.std.specs.declared.cmp.Ordering.{Ordering}
use Rattle.std.proofs.lemmas.Bool.{and_from, true≢false, eqb-true, eq-eqb}
use Rattle.std.proofs.lemmas.List.Folds.{list_all-append}
use Rattle.std.proofs.lemmas.List.Kept.{IsStrictlySortedBy-filter}
use Rattle.std.proofs.lemmas.List.Recursion.{is_sum_by}
use Rattle.std.proofs.lemmas.Option.{same_Some, none-some}
use Rattle.lattice.specs.Times.{Times}
use Rattle.lattice.specs.Frontiers.{is_beyond}
use Rattle.update.specs.Bags.{Entry}
use Rattle.update.specs.declared.change.Update.{Update}
use Rattle.joined_times.specs.Joined.{Member, AreOnce, of_key}
use Rattle.reduce.specs.Histories.{HistoryState, IsHistory, AreHistories, IsWaiting}
use Rattle.reduce.specs.Reductions.{reads_in, all_reads}
use Rattle.reduce.specs.Visits.{Visit, AreVisits, renewed, all_renewed, waits_on, reads_of}
use Rattle.joined_times.proofs.MemberLemmas.{in_either, in_left, in_right, image_in, image_of}
use Rattle.reduce.proofs.RenewLemmas.{set_other, some_there, visits_after, own_more}
use Rattle.key_history.proofs.SettleLemmas.{take_whole}

module _ {X : Type 0} where
  set_here : (xs : List X) (i : ℕ) (x y : X) → slice_get xs i ≡ Some y → slice_get (set xs i x) i ≡ Some x
  set_here [] i x y e = absurd (none-some y e)
  set_here (z ∷ xs) zero x y e = refl
  set_here (z ∷ xs) (suc i) x y e = set_here xs i x y e

  empty_or : (xs : List X) → (xs ≡ []) ⊎ (xs ≢ [])
  empty_or [] = inl refl
  empty_or (x ∷ xs) = inr (λ e. absurd (subst is_some_list e tt))
    where
      is_some_list : List X → Type 0
      is_some_list [] = ⊥
      is_some_list (y ∷ ys) = Unit {0}

abbrev summed : {X : Type 0} → (X → ℕ) → List X → ℕ
summed f [] = 0
summed f (x ∷ xs) = f x + summed f xs

summed_is : {X : Type 0} (f : X → ℕ) (xs : List X) → summed f xs ≡ sum_by f xs
summed_is f xs = is_sum_by (summed f) f refl (λ _ _. refl) xs

module _ {T : Type 0} (times : Times T) (front : List T) (reduce : List ℤ → List Entry → List Entry) (content : List (Update T)) where
  abbrev places : List (Visit T) → List ℕ
  places vs = map (λ v. v.place) vs

  -- at the place of no visit all is as it was
  elsewhere : (vs : List (Visit T)) (hs : List (HistoryState T)) (i : ℕ) → (Member i (places vs) → ⊥) → slice_get (all_renewed vs hs) i ≡ slice_get hs i
  elsewhere [] hs i n = refl
  elsewhere (v ∷ vs) hs i n = elsewhere vs (set hs v.place (renewed v)) i (λ m. n (inr m)) ∙ set_other hs v.place i (renewed v) (λ e. n (inl (sym e)))

  -- at the place of a visit is the history that it renewed
  renewed_there : (vs : List (Visit T)) (hs : List (HistoryState T)) → AreOnce (places vs) → AreVisits times front reduce content hs vs → (v : Visit T) → Member v vs → slice_get (all_renewed vs hs) v.place ≡ Some (renewed v)
  renewed_there (w ∷ vs) hs o a v (inl e) =
      subst (λ z. slice_get (all_renewed vs (set hs w.place (renewed w))) z.place ≡ Some (renewed z)) (sym e)
      (elsewhere vs (set hs w.place (renewed w)) w.place o.0 ∙ set_here hs w.place (renewed w) w.history a.0.there)
  renewed_there (w ∷ vs) hs o a v (inr m) = renewed_there vs (set hs w.place (renewed w)) o.1 (visits_after times front reduce content hs w vs o.0 a.1) v m
  renewed_there [] hs o a v m = absurd m

  waits : (v : Visit T) → v.rest ≢ [] → waits_on v ≡ v.place ∷ []
  waits v n = step (nat_eq (length v.rest) 0) refl
    where
      nothing : (ts : List T) → length ts ≡ 0 → ts ≡ []
      nothing [] e = refl
      nothing (t ∷ ts) e = absurd (omega (arith, e))

      step : (b : Bool) → nat_eq (length v.rest) 0 ≡ b → cond b [] (v.place ∷ []) ≡ v.place ∷ []
      step false e = refl
      step true e = absurd (n (nothing v.rest (eqb-true (length v.rest) 0 e)))

  waits_not : (v : Visit T) → v.rest ≡ [] → waits_on v ≡ []
  waits_not v e = ap (λ ts. cond (nat_eq (length ts) 0) [] (v.place ∷ [])) e

  waiting_in : (vs : List (Visit T)) (i : ℕ) → Member i (flat_map waits_on vs) → (v : Visit T) × Member v vs × (v.place ≡ i) × (v.rest ≢ [])
  waiting_in [] i m = absurd m
  waiting_in (v ∷ vs) i m =
      ⊎_elim
      (λ a. ⊎_elim
      (λ e. absurd (subst (Member i) (waits_not v e) a))
      (λ n. ⊎_elim (λ d. (v, inl refl, sym d, n)) (λ x. absurd x) (subst (Member i) (waits v n) a))
      (empty_or v.rest))
      (λ b. let r = waiting_in vs i b in (r.0, inr r.1, r.2, r.3))
      (in_either i (waits_on v) (flat_map waits_on vs) m)

  in_waiting : (vs : List (Visit T)) (v : Visit T) → Member v vs → v.rest ≢ [] → Member v.place (flat_map waits_on vs)
  in_waiting (w ∷ vs) v (inl e) n =
      subst (λ z. Member z.place (waits_on w ++ flat_map waits_on vs)) (sym e)
      (in_left w.place (waits_on w) (flat_map waits_on vs) (subst (Member w.place) (sym (waits w (subst (λ z. z.rest ≢ []) e n))) (inl refl)))
  in_waiting (w ∷ vs) v (inr m) n = in_right v.place (waits_on w) (flat_map waits_on vs) (in_waiting vs v m n)
  in_waiting [] v m n = absurd m

  waiting_once : (vs : List (Visit T)) → AreOnce (places vs) → AreOnce (flat_map waits_on vs)
  waiting_once [] o = tt
  waiting_once (v ∷ vs) o = ⊎_elim
      (λ e. subst (λ z. AreOnce (z ++ flat_map waits_on vs)) (sym (waits_not v e)) (waiting_once vs o.1))
      (λ n. subst (λ z. AreOnce (z ++ flat_map waits_on vs)) (sym (waits v n))
      ((λ m. let r = waiting_in vs v.place m in o.0 (subst (λ z. Member z (places vs)) r.2 (image_in (λ (v : Visit T). v.place) r.0 vs r.1))), waiting_once vs o.1))
      (empty_or v.rest)

  pub waiting_after : (vs : List (Visit T)) (hs : List (HistoryState T)) → AreOnce (places vs) → AreVisits times front reduce content hs vs → IsWaiting hs (places vs) → IsWaiting (all_renewed vs hs) (flat_map waits_on vs)
  waiting_after vs hs o a w = record {
    once = waiting_once vs o;
    exact = λ i. (there i, back i);
  }
    where
      there : (i : ℕ) → Member i (flat_map waits_on vs) → IsSomeAnd (slice_get (all_renewed vs hs) i) (λ h. h.due ≢ [])
      there i m =
          let r = waiting_in vs i m in
          subst (λ z. IsSomeAnd (slice_get (all_renewed vs hs) z) (λ h. h.due ≢ [])) r.2
          (some_there (λ h. h.due ≢ []) (all_renewed vs hs) r.0.place (renewed r.0) (renewed_there vs hs o a r.0 r.1) r.3)

      back : (i : ℕ) → IsSomeAnd (slice_get (all_renewed vs hs) i) (λ h. h.due ≢ []) → Member i (flat_map waits_on vs)
      back i s = known i s (in_or (places vs))
        where
          in_or : (ps : List ℕ) → Member i ps ⊎ (Member i ps → ⊥)
          in_or [] = inr (λ m. m)
          in_or (p ∷ ps) = step (nat_eq i p) refl (in_or ps)
            where
              step : (b : Bool) → nat_eq i p ≡ b → Member i ps ⊎ (Member i ps → ⊥) → Member i (p ∷ ps) ⊎ (Member i (p ∷ ps) → ⊥)
              step true e r = inl (inl (eqb-true i p e))
              step false e (inl m) = inl (inr m)
              step false e (inr n) = inr (λ m. ⊎_elim (λ d. true≢false (sym (eq-eqb i p d) ∙ e)) n m)

          known : (i : ℕ) → IsSomeAnd (slice_get (all_renewed vs hs) i) (λ h. h.due ≢ []) → Member i (places vs) ⊎ (Member i (places vs) → ⊥) → Member i (flat_map waits_on vs)
          known i s (inr n) = absurd (n ((w.exact i).1 (subst (λ z. IsSomeAnd z (λ h. h.due ≢ [])) (elsewhere vs hs i n) s)))
          known i s (inl m) =
              let r = image_of (λ (v : Visit T). v.place) i vs m in
              let at : IsSomeAnd (Some (renewed r.0)) (λ h. h.due ≢ []) = subst (λ z. IsSomeAnd z (λ h. h.due ≢ [])) (ap (slice_get (all_renewed vs hs)) r.2 ∙ renewed_there vs hs o a r.0 r.1) s in
              subst (λ z. Member z (flat_map waits_on vs)) (sym r.2) (in_waiting vs r.0 r.1 at)

  -- ---- histories in order

  histories_set : (cmp : T → T → Ordering) (k : ℕ) (hs : List (HistoryState T)) (i : ℕ) (h : HistoryState T) → AreHistories cmp k hs → IsHistory cmp k h → AreHistories cmp k (set hs i h)
  histories_set cmp k [] i h a b = tt
  histories_set cmp k (x ∷ hs) zero h a b = (b, a.1)
  histories_set cmp k (x ∷ hs) (suc i) h a b = (a.0, histories_set cmp k hs i h a.1 b)

  pub history_there : (cmp : T → T → Ordering) (k : ℕ) (hs : List (HistoryState T)) (i : ℕ) (h : HistoryState T) → slice_get hs i ≡ Some h → AreHistories cmp k hs → IsHistory cmp k h
  history_there cmp k [] i h e a = absurd (none-some h e)
  history_there cmp k (x ∷ hs) zero h e a = subst (IsHistory cmp k) (same_Some x h e) a.0
  history_there cmp k (x ∷ hs) (suc i) h e a = history_there cmp k hs i h e a.1

  all_of : (p : Update T → Bool) (us : List (Update T)) → ((u : Update T) → Member u us → p u ≡ true) → IsTrue (list_all p us)
  all_of p [] h = refl
  all_of p (u ∷ us) h = and_from (p u) (list_all p us) (h u (inl refl)) (all_of p us (λ v m. h v (inr m)))

  pub histories_after : (cmp : T → T → Ordering) (k : ℕ) (vs : List (Visit T)) (hs : List (HistoryState T)) → AreOnce (places vs) → AreVisits times front reduce content hs vs → AreHistories cmp k hs → AreHistories cmp k (all_renewed vs hs)
  histories_after cmp k [] hs o a known = known
  histories_after cmp k (v ∷ vs) hs o a known =
      let h = history_there cmp k hs v.place v.history a.0.there known in
      let own = own_more times front reduce content k cmp hs known v a.0 in
      let one : IsHistory cmp k (renewed v) = record {
        width = h.width;
        times = h.times;
        due = subst (IsStrictlySortedBy cmp) (sym (a.0.settled.rest_is ∙ ap (filter (λ t. is_beyond times front t)) (take_whole v.history.due))) (IsStrictlySortedBy-filter cmp (λ t. is_beyond times front t) v.history.due h.due);
        keyed = list_all-append (of_key k v.history.key) v.history.given v.more ∙ and_from (list_all (of_key k v.history.key) v.history.given) (list_all (of_key k v.history.key) v.more) h.keyed (all_of (of_key k v.history.key) v.more own.1);
      } in
      histories_after cmp k vs (set hs v.place (renewed v)) o.1 (visits_after times front reduce content hs v vs o.0 a.1) (histories_set cmp k hs v.place (renewed v) known one)

  -- ---- how much was read

  pub reads_are_all : (vs : List (Visit T)) (hs : List (HistoryState T)) → AreVisits times front reduce content hs vs → sum_by (reads_of times front content) vs ≡ all_reads times front content hs (places vs)
  reads_are_all vs hs a = sym (summed_is (reads_of times front content) vs) ∙ (go vs a ∙ summed_is (λ i. reads_in times front content (slice_get hs i)) (places vs))
    where
      go : (vs : List (Visit T)) → AreVisits times front reduce content hs vs → summed (reads_of times front content) vs ≡ summed (λ i. reads_in times front content (slice_get hs i)) (places vs)
      go [] a = refl
      go (v ∷ vs) a =
          let one : reads_of times front content v ≡ reads_in times front content (slice_get hs v.place) = sym (ap (reads_in times front content) a.0.there) in
          let rest = go vs a.1 in
          omega (arith, one, rest)
