-- Merges stay at their places while the list changes behind them.
use Rattle.std.proofs.Common.{◌≡◌, ℕ, zero, suc, ◌<◌, ◌≤◌, ◌+◌, ◌-◌, Bool, true, false, List, [], ◌∷◌, ◌++◌, set, length, slice_get, Option, Some, None, option_to_list, refl, sym, ◌∙◌, ap, subst, arith}
use Rattle.std.specs.declared.cmp.Ordering.{Ordering}
use Rattle.std.proofs.lemmas.List.{append-nil}
use Rattle.batch.specs.Descriptions.{BatchState, DescriptionState}
use Rattle.batch.specs.Merges.{MergingState}
use Rattle.trace.specs.BatchLists.{merged_at}
use Rattle.trace.proofs.BoundaryLemmas.{some_same, none_some}
use Rattle.levels.specs.Levels.{UnderwayState, Change, Merged, Rewritten, changed, width_of, end_of_place, end_of_places, IsSameMerge, IsChangeAs, IsIn, IsAt, AreUnderwayFrom, AreUnderway}
use Rattle.lattice.specs.Times.{Times}

-- ---- what is before the change

-- what is at a number is there still when more is appended
get_front : {X : Type 0} (xs ys : List X) (i : ℕ) → i < length xs → slice_get (xs ++ ys) i ≡ slice_get xs i
get_front [] ys i l = absurd (omega (arith, l))
get_front (x ∷ xs) ys zero l = refl
get_front (x ∷ xs) ys (suc i) l = get_front xs ys i (omega (arith, l))

get_within : {X : Type 0} (xs : List X) (i : ℕ) (x : X) → slice_get xs i ≡ Some x → i < length xs
get_within [] i x e = absurd (none_some e)
get_within (y ∷ xs) zero x e = omega arith
get_within (y ∷ xs) (suc i) x e = let r = get_within xs i x e in omega (arith, r)

module _ {T : Type 0} where
  get_merged : (i k : ℕ) (m : BatchState T) (bs : List (BatchState T)) → i < k → slice_get (merged_at k m bs) i ≡ slice_get bs i
  get_merged i k m [] l = refl
  get_merged i zero m (a ∷ bs) l = absurd (omega (arith, l))
  get_merged zero (suc k) m (a ∷ bs) l = refl
  get_merged (suc i) (suc k) m (a ∷ bs) l = get_merged i k m bs (omega (arith, l))

  get_rewritten : (i k : ℕ) (m : BatchState T) (bs : List (BatchState T)) → i < k → slice_get (set bs k m) i ≡ slice_get bs i
  get_rewritten i k m [] l = refl
  get_rewritten i zero m (a ∷ bs) l = absurd (omega (arith, l))
  get_rewritten zero (suc k) m (a ∷ bs) l = refl
  get_rewritten (suc i) (suc k) m (a ∷ bs) l = get_rewritten i k m bs (omega (arith, l))

  -- a change leaves the batches before its place
  pub changed_before : (times : Times T) (bs : List (BatchState T)) (u : UnderwayState T) (c : Change T) → IsChangeAs times bs u c → (i : ℕ) → i < u.number → slice_get (changed c bs) i ≡ slice_get bs i
  changed_before times bs u (Merged k m) is i l = get_merged i k m bs (omega (arith, l, is.1))
  changed_before times bs u (Rewritten k m) is i l = get_rewritten i k m bs (omega (arith, l, is.1))

  -- a merge that has gone on makes the same change
  pub change_same : (times : Times T) (bs : List (BatchState T)) (n u : UnderwayState T) (c : Change T) → IsSameMerge n u → IsChangeAs times bs u c → IsChangeAs times bs n c
  change_same times bs n u (Merged k m) same is = (
    sym (ap (λ (v : UnderwayState T). v.alone) same.place) ∙ is.0,
    is.1 ∙ ap (λ (v : UnderwayState T). v.number) same.place,
    is.2 ∙ ap (λ (d : DescriptionState T). d.since) same.described,
    is.3,
  )
  change_same times bs n u (Rewritten k m) same is = (
    sym (ap (λ (v : UnderwayState T). v.alone) same.place) ∙ is.0,
    is.1 ∙ ap (λ (v : UnderwayState T). v.number) same.place,
    is.2 ∙ ap (λ (d : DescriptionState T). d.since) same.described,
    is.3,
  )

-- ---- the stack

module _ {T : Type 0} where
  -- the newest merge is the last one
  ends_last : (from : ℕ) (us : List (UnderwayState T)) (n : ℕ) (u : UnderwayState T) → slice_get us n ≡ Some u → length us ≡ suc n → end_of_places from us ≡ end_of_place u
  ends_last from [] n u e l = absurd (none_some e)
  ends_last from (v ∷ []) zero u e l = ap (λ (x : UnderwayState T). end_of_place x) (some_same e)
  ends_last from (v ∷ w ∷ us) zero u e l = absurd (omega (arith, l))
  ends_last from (v ∷ us) (suc n) u e l = ends_last (end_of_place v) us n u e (omega (arith, l))

  pub ends_newest : (us : List (UnderwayState T)) (u : UnderwayState T) → Some u ≡ slice_get us (length us - 1) → end_of_places 0 us ≡ end_of_place u
  ends_newest us u e =
      let l = get_within us (length us - 1) u (sym e) in
      ends_last 0 us (length us - 1) u (sym e) (omega (arith, l))

module _ {T : Type 0} (times : Times T) (cmp : T → T → Ordering) where
  -- a place is within the list
  pub in_within : (alone : Bool) (n : ℕ) (m : MergingState T) (bs : List (BatchState T)) → IsIn times cmp alone n m bs → n + width_of alone ≤ length bs
  in_within true n m bs is = let l = get_within bs n is.0 is.1 in omega (arith, l)
  in_within false n m bs is = let l = get_within bs (suc n) is.1 is.3 in omega (arith, l)

  in_elsewhere : (alone : Bool) (n k : ℕ) (m : MergingState T) (bs cs : List (BatchState T)) → ((i : ℕ) → i < k → slice_get cs i ≡ slice_get bs i) → n + width_of alone ≤ k → IsIn times cmp alone n m bs → IsIn times cmp alone n m cs
  in_elsewhere true n k m bs cs same l is = (is.0, same n (omega (arith, l)) ∙ is.1, is.2)
  in_elsewhere false n k m bs cs same l is = (is.0, is.1, same n (omega (arith, l)) ∙ is.2, same (suc n) (omega (arith, l)) ∙ is.3, is.4)

  -- places go forward
  pub places_forward : (bs : List (BatchState T)) (from : ℕ) (us : List (UnderwayState T)) → AreUnderwayFrom times cmp from bs us → from ≤ end_of_places from us
  places_forward bs from [] is = omega arith
  places_forward bs from (u ∷ us) is = let r = places_forward bs (end_of_place u) us is.2 in omega (arith, r, is.0)

  -- all places are within the list
  pub ends_within : (bs : List (BatchState T)) (from : ℕ) (us : List (UnderwayState T)) → AreUnderwayFrom times cmp from bs us → from ≤ length bs → end_of_places from us ≤ length bs
  ends_within bs from [] is l = l
  ends_within bs from (u ∷ us) is l = ends_within bs (end_of_place u) us is.2 (in_within u.alone u.number u.merging bs is.1)

  -- a list that is the same up to the end of all places
  underway_elsewhere : (bs cs : List (BatchState T)) (k from : ℕ) (us : List (UnderwayState T)) → ((i : ℕ) → i < k → slice_get cs i ≡ slice_get bs i) → end_of_places from us ≤ k → AreUnderwayFrom times cmp from bs us → AreUnderwayFrom times cmp from cs us
  underway_elsewhere bs cs k from [] same l is = tt
  underway_elsewhere bs cs k from (u ∷ us) same l is =
      let r = places_forward bs (end_of_place u) us is.2 in (
        is.0,
        in_elsewhere u.alone u.number k u.merging bs cs same (omega (arith, r, l)) is.1,
        underway_elsewhere bs cs k (end_of_place u) us same l is.2,
      )

  -- a batch comes in behind all places
  pub underway_more : (bs cs : List (BatchState T)) (us : List (UnderwayState T)) → AreUnderway times cmp bs us → AreUnderway times cmp (bs ++ cs) us
  underway_more bs cs us is =
      underway_elsewhere bs (bs ++ cs) (length bs) 0 us (get_front bs cs) (ends_within bs 0 us is (omega arith)) is

  -- a merge is begun behind all others
  underway_push : (bs : List (BatchState T)) (from : ℕ) (us : List (UnderwayState T)) (u : UnderwayState T) → AreUnderwayFrom times cmp from bs us → end_of_places from us ≤ u.number → IsAt times cmp bs u → AreUnderwayFrom times cmp from bs (us ++ u ∷ [])
  underway_push bs from [] u is l at = (l, at, tt)
  underway_push bs from (v ∷ us) u is l at = (is.0, is.1, underway_push bs (end_of_place v) us u is.2 l at)

  pub underway_begun : (bs cs : List (BatchState T)) (us vs ws old : List (UnderwayState T)) (u : UnderwayState T) (i : ℕ) → AreUnderway times cmp bs us → cs ≡ bs → IsAt times cmp cs u → u.number ≡ i → us ≡ old → end_of_places 0 old ≤ i → vs ≡ us → ws ≡ vs ++ u ∷ [] → AreUnderway times cmp bs ws
  underway_begun bs cs us vs ws old u i is same at number e l f g =
      let ends = ap (end_of_places 0) e in
      subst (λ xs. AreUnderway times cmp bs xs) (sym (g ∙ ap (λ xs. xs ++ u ∷ []) f))
      (underway_push bs 0 us u is (omega (arith, l, number, ends)) (subst (λ ds. IsAt times cmp ds u) same at))

  -- the newest merge, and those before it
  pub record ArePopped (from : ℕ) (bs : List (BatchState T)) (us : List (UnderwayState T)) (u : UnderwayState T) : Type 0 where
    pub older : AreUnderwayFrom times cmp from bs us
    pub behind : end_of_places from us ≤ u.number
    pub at : IsAt times cmp bs u

  popped_from : (from : ℕ) (bs : List (BatchState T)) (us : List (UnderwayState T)) (u : UnderwayState T) → AreUnderwayFrom times cmp from bs (us ++ u ∷ []) → ArePopped from bs us u
  popped_from from bs [] u is = record { older = tt; behind = is.0; at = is.1 }
  popped_from from bs (v ∷ us) u is =
      let r = popped_from (end_of_place v) bs us u is.2 in
      record { older = (is.0, is.1, r.older); behind = r.behind; at = r.at }

  pub popped : (bs : List (BatchState T)) (us : List (UnderwayState T)) (u : UnderwayState T) → AreUnderway times cmp bs (us ++ u ∷ []) → ArePopped 0 bs us u
  popped bs us u is = popped_from 0 bs us u is

  -- the newest merge at its place, in the list as it is lent
  pub newest_at : (bs cs : List (BatchState T)) (us rest : List (UnderwayState T)) (n : UnderwayState T) → cs ≡ bs → us ≡ rest ++ n ∷ [] → AreUnderway times cmp bs us → IsAt times cmp cs n
  newest_at bs cs us rest n same was is =
      subst (λ ds. IsAt times cmp ds n) (sym same) (popped bs rest n (subst (λ xs. AreUnderway times cmp bs xs) was is)).at

  -- a merge that has gone on is the newest one again
  pub underway_on : (bs cs : List (BatchState T)) (us rest : List (UnderwayState T)) (n u : UnderwayState T) → cs ≡ bs → us ≡ rest ++ n ∷ [] → AreUnderway times cmp bs us → IsAt times cmp cs u → IsSameMerge n u → AreUnderway times cmp bs (rest ++ u ∷ [])
  underway_on bs cs us rest n u same was is at merge =
      let p = popped bs rest n (subst (λ xs. AreUnderway times cmp bs xs) was is) in
      underway_begun bs cs rest rest (rest ++ u ∷ []) rest u n.number p.older same at (ap (λ (v : UnderwayState T). v.number) merge.place) refl p.behind refl refl

  -- the newest merge changes the list behind the places of all others
  pub underway_put : (bs : List (BatchState T)) (us : List (UnderwayState T)) (u : UnderwayState T) (c : Change T) → AreUnderway times cmp bs (us ++ u ∷ []) → IsChangeAs times bs u c → AreUnderway times cmp (changed c bs) us
  underway_put bs us u c is makes =
      let p = popped bs us u is in
      underway_elsewhere bs (changed c bs) u.number 0 us (changed_before times bs u c makes) p.behind p.older

  -- without the newest merge, if there is one, the others are under way
  pub underway_popped : (bs : List (BatchState T)) (us vs : List (UnderwayState T)) (r : Option (UnderwayState T)) → vs ≡ us ++ option_to_list r → AreUnderway times cmp bs vs → AreUnderway times cmp bs us
  underway_popped bs us vs None e is = subst (λ ws. AreUnderway times cmp bs ws) (e ∙ append-nil us) is
  underway_popped bs us vs (Some u) e is = (popped bs us u (subst (λ ws. AreUnderway times cmp bs ws) e is)).older
