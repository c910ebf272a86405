-- Ascending lists of times: times that tie are equal, and a merge keeps `IsMerging` from its
-- beginning through each step to its end.
use Rattle.std.proofs.Common.{◌≡◌, ◌↔◌, ℕ, ◌<◌, ◌+◌, ◌-◌, Bool, true, List, [], ◌∷◌, ◌++◌, length, get_or, take, drop, ◌⊎◌, inl, inr, ⊎_elim, refl, sym, ap, ◌∙◌, subst, append_assoc, length-drop, arith}
use Rattle.std.specs.List.{AllByRecursion}
use Rattle.std.specs.List.Sorted.{IsStrictlySortedBy}
use Rattle.std.specs.Cmp.{IsTotalOrder}
use Rattle.std.specs.Ordering.{is_eq, ordering_reverse}
use Rattle.std.specs.declared.cmp.Ordering.{Ordering}
use Rattle.std.specs.declared.cmp.Ordering.TheVariants.{Less, Equal, Greater}
use Rattle.std.proofs.lemmas.Bool.{true≢false}
use Rattle.std.proofs.lemmas.List.{append-nil, drop_more, take_rest}
use Rattle.std.proofs.lemmas.Map.Keys.{sorted_head, sorted_tail}
use Rattle.joined_times.specs.Joined.{Member}
use Rattle.joined_times.specs.Additions.{IsMerging}
use Rattle.joined_times.proofs.MemberLemmas.{in_left, in_right, in_either, pushed_members, itself, through, in_each, exchanged}

-- times that compare as equal are equal
pub equal_from_eq : {T : Type 0} (eq : T → T → Bool) {cmp : T → T → Ordering} → ((x y : T) → eq x y ≡ is_eq (cmp x y)) → ((x y : T) → cmp x y ≡ Equal → x ≡ y) → (x y : T) → eq x y ≡ true → x ≡ y
equal_from_eq eq {cmp} ties exact x y e = exact x y (step (cmp x y) (sym (ties x y) ∙ e))
  where
    step : (o : Ordering) → is_eq o ≡ true → o ≡ Equal
    step Less h = absurd (true≢false (sym h))
    step Equal h = refl
    step Greater h = absurd (true≢false (sym h))

module _ {T : Type 0} (P : T → Type 0) where
  both : (xs ys : List T) → AllByRecursion P xs → AllByRecursion P ys → AllByRecursion P (xs ++ ys)
  both [] ys a b = b
  both (x ∷ xs) ys a b = (a.0, both xs ys a.1 b)

  first_part : (xs ys : List T) → AllByRecursion P (xs ++ ys) → AllByRecursion P xs
  first_part [] ys a = tt
  first_part (x ∷ xs) ys a = (a.0, first_part xs ys a.1)

  second_part : (xs ys : List T) → AllByRecursion P (xs ++ ys) → AllByRecursion P ys
  second_part [] ys a = a
  second_part (x ∷ xs) ys a = second_part xs ys a.1

module _ {T : Type 0} (cmp : T → T → Ordering) where
  on_top : (x : T) (xs : List T) → AllByRecursion (λ y. cmp x y ≡ Less) xs → IsStrictlySortedBy cmp xs → IsStrictlySortedBy cmp (x ∷ xs)
  unfolding IsStrictlySortedBy
  on_top x xs a s = (a, s)

  rest_sorted : (out xs : List T) → IsStrictlySortedBy cmp (out ++ xs) → IsStrictlySortedBy cmp xs
  rest_sorted [] xs s = s
  rest_sorted (o ∷ out) xs s = rest_sorted out xs (sorted_tail cmp o (out ++ xs) s)

  -- a time that comes after `out` and before `ys` may be put between them
  put_between : (out xs ys : List T) (x : T) → AllByRecursion (λ y. cmp x y ≡ Less) ys → IsStrictlySortedBy cmp (out ++ (x ∷ xs)) → IsStrictlySortedBy cmp (out ++ ys) → IsStrictlySortedBy cmp (out ++ (x ∷ ys))
  put_between [] xs ys x a s t = on_top x ys a t
  put_between (o ∷ out) xs ys x a s t =
      let P : T → Type 0 = λ y. cmp o y ≡ Less in
      let h = sorted_head cmp o (out ++ (x ∷ xs)) s in
      let k = sorted_head cmp o (out ++ ys) t in
      on_top o (out ++ (x ∷ ys))
      (both P out (x ∷ ys) (first_part P out (x ∷ xs) h) ((second_part P out (x ∷ xs) h).0, second_part P out ys k))
      (put_between out xs ys x a (sorted_tail cmp o (out ++ (x ∷ xs)) s) (sorted_tail cmp o (out ++ ys) t))

-- the rest of a list from an index on
standing : {T : Type 0} (xs : List T) (i : ℕ) (x : T) → i < length xs → x ≡ get_or xs i x → drop i xs ≡ x ∷ drop (i + 1) xs
standing xs i x h e = drop_more xs i x h ∙ ap (λ y. y ∷ drop (i + 1) xs) (sym e)

-- ---- merging

module _ {T : Type 0} where
  -- the first time of the left list is written: all three lists together have the same members
  moved_left : (out left right : List T) (x t : T) → (Member t (out ++ x ∷ []) ⊎ (Member t left ⊎ Member t right)) ↔ (Member t out ⊎ (Member t (x ∷ left) ⊎ Member t right))
  moved_left out left right x t = (
    (λ m. ⊎_elim
        (λ k. ⊎_elim (λ h. inl h) (λ e. inr (inl (inl e))) ((pushed_members t x out).0 k))
        (λ r. inr (⊎_elim (λ h. inl (inr h)) (λ h. inr h) r)) m),
    (λ m. ⊎_elim
        (λ k. inl ((pushed_members t x out).1 (inl k)))
        (λ r. ⊎_elim
        (λ k. ⊎_elim (λ e. inl ((pushed_members t x out).1 (inr e))) (λ h. inr (inl h)) k)
        (λ h. inr (inr h))
        r) m),
  )

  -- the same for the one time that both lists begin with
  moved_both : (out left right : List T) (x t : T) → (Member t (out ++ x ∷ []) ⊎ (Member t left ⊎ Member t right)) ↔ (Member t out ⊎ (Member t (x ∷ left) ⊎ Member t (x ∷ right)))
  moved_both out left right x t = (
    (λ m. ⊎_elim (λ k. inl k) (λ r. inr (⊎_elim (λ h. inl h) (λ h. inr (inr h)) r)) ((moved_left out left right x t).0 m)),
    (λ m. (moved_left out left right x t).1
        (⊎_elim
        (λ k. inl k)
        (λ r. inr (⊎_elim (λ h. inl h) (λ k. ⊎_elim (λ e. inl (inl e)) (λ h. inr h) k) r))
        m)),
  )

  -- the rest of one list is written
  moved_rest : (out left : List T) (t : T) → (Member t (out ++ left) ⊎ (Member t [] ⊎ Member t [])) ↔ (Member t out ⊎ (Member t left ⊎ Member t []))
  moved_rest out left t = (
    (λ m. ⊎_elim
        (λ k. ⊎_elim (λ h. inl h) (λ h. inr (inl h)) (in_either t out left k))
        (λ r. ⊎_elim (λ n. absurd n) (λ n. absurd n) r) m),
    (λ m. inl (⊎_elim
        (λ k. in_left t out left k)
        (λ r. ⊎_elim (λ h. in_right t out left h) (λ n. absurd n) r)
        m)),
  )

module _ {T : Type 0} {cmp : T → T → Ordering} (total : IsTotalOrder cmp) where
  -- what comes before a time comes before all that come after it
  after_all : (x y : T) (ys : List T) → cmp x y ≡ Less → AllByRecursion (λ z. cmp y z ≡ Less) ys → AllByRecursion (λ z. cmp x z ≡ Less) ys
  after_all x y [] l a = tt
  after_all x y (z ∷ ys) l a = (total.trans x y z l a.0, after_all x y ys l a.1)

  -- at the beginning of a merge nothing is written and everything is to come
  pub begins : (xs ys : List T) → IsStrictlySortedBy cmp xs → IsStrictlySortedBy cmp ys → IsMerging cmp xs ys [] xs ys
  begins xs ys a b = record {
    ascending_left = a;
    ascending_right = b;
    members = λ t. ((λ m. ⊎_elim (λ n. absurd n) (λ k. k) m), (λ m. inr m));
  }

  -- the two lists of a merge may be exchanged, so steps on the right follow from steps on the left
  turned : (xs ys out left right : List T) → IsMerging cmp xs ys out left right → IsMerging cmp ys xs out right left
  turned xs ys out left right m = record {
    ascending_left = m.ascending_right;
    ascending_right = m.ascending_left;
    members = λ t.
        through (in_each itself (exchanged (Member t right) (Member t left)))
        (through (m.members t) (exchanged (Member t xs) (Member t ys)));
  }

  -- writing the first time of the left list, if it comes before the first of the right one
  step_left : (xs ys out left right : List T) (x y : T) → cmp x y ≡ Less → IsMerging cmp xs ys out (x ∷ left) (y ∷ right) → IsMerging cmp xs ys (out ++ x ∷ []) left (y ∷ right)
  step_left xs ys out left right x y l m =
      let later : AllByRecursion (λ z. cmp x z ≡ Less) (y ∷ right) = (l, after_all x y right l (sorted_head cmp y right (rest_sorted cmp out (y ∷ right) m.ascending_right))) in
      record {
        ascending_left = subst (IsStrictlySortedBy cmp) (sym (append_assoc out (x ∷ []) left)) m.ascending_left;
        ascending_right = subst (IsStrictlySortedBy cmp) (sym (append_assoc out (x ∷ []) (y ∷ right))) (put_between cmp out left (y ∷ right) x later m.ascending_left m.ascending_right);
        members = λ t. through (moved_left out left (y ∷ right) x t) (m.members t);
      }

  -- writing the one time that both lists begin with
  step_both : (xs ys out left right : List T) (x : T) → IsMerging cmp xs ys out (x ∷ left) (x ∷ right) → IsMerging cmp xs ys (out ++ x ∷ []) left right
  step_both xs ys out left right x m = record {
    ascending_left = subst (IsStrictlySortedBy cmp) (sym (append_assoc out (x ∷ []) left)) m.ascending_left;
    ascending_right = subst (IsStrictlySortedBy cmp) (sym (append_assoc out (x ∷ []) right)) m.ascending_right;
    members = λ t. through (moved_both out left right x t) (m.members t);
  }

  -- writing the rest of the left list after the right one has ended
  rest : (xs ys out left : List T) → IsMerging cmp xs ys out left [] → IsMerging cmp xs ys (out ++ left) [] []
  rest xs ys out left m =
      let whole = subst (IsStrictlySortedBy cmp) (sym (append-nil (out ++ left))) m.ascending_left in
      record {
        ascending_left = whole;
        ascending_right = whole;
        members = λ t. through (moved_rest out left t) (m.members t);
      }

  -- writing the rest of both lists once one of them has ended
  rests : (xs ys out left right : List T) → (0 < length left → 0 < length right → ⊥) → IsMerging cmp xs ys out left right → IsMerging cmp xs ys ((out ++ left) ++ right) [] []
  rests xs ys out [] right n m =
      turned ys xs ((out ++ []) ++ right) [] [] (rest ys xs (out ++ []) right (turned xs ys (out ++ []) [] right (subst (λ zs. IsMerging cmp xs ys zs [] right) (sym (append-nil out)) m)))
  rests xs ys out (x ∷ left) [] n m =
      subst (λ zs. IsMerging cmp xs ys zs [] []) (sym (append-nil (out ++ (x ∷ left)))) (rest xs ys out (x ∷ left) m)
  rests xs ys out (x ∷ left) (y ∷ right) n m = absurd (n (omega arith) (omega arith))

  module _ {xs ys out : List T} (new : List T) (i j : ℕ) where
    -- taking the left time keeps `IsMerging`
    pub take_left : (x y : T) → i < length xs → j < length ys → x ≡ get_or xs i x → y ≡ get_or ys j y → cmp x y ≡ Less → new ≡ out ++ x ∷ [] → IsMerging cmp xs ys out (drop i xs) (drop j ys) → IsMerging cmp xs ys new (drop (i + 1) xs) (drop j ys)
    take_left x y h k e d l w m =
        let left = standing xs i x h e in
        let right = standing ys j y k d in
        let here = subst (λ zs. IsMerging cmp xs ys out zs (y ∷ drop (j + 1) ys)) left (subst (λ zs. IsMerging cmp xs ys out (drop i xs) zs) right m) in
        subst (λ zs. IsMerging cmp xs ys zs (drop (i + 1) xs) (drop j ys)) (sym w)
        (subst (λ zs. IsMerging cmp xs ys (out ++ x ∷ []) (drop (i + 1) xs) zs) (sym right) (step_left xs ys out (drop (i + 1) xs) (drop (j + 1) ys) x y l here))

    -- taking the one time at both cursors keeps `IsMerging`
    pub take_both : (x y : T) → i < length xs → j < length ys → x ≡ get_or xs i x → y ≡ get_or ys j y → x ≡ y → new ≡ out ++ x ∷ [] → IsMerging cmp xs ys out (drop i xs) (drop j ys) → IsMerging cmp xs ys new (drop (i + 1) xs) (drop (j + 1) ys)
    take_both x y h k e d same w m =
        let left = standing xs i x h e in
        let right : drop j ys ≡ x ∷ drop (j + 1) ys = standing ys j y k d ∙ ap (λ z. z ∷ drop (j + 1) ys) (sym same) in
        let here = subst (λ zs. IsMerging cmp xs ys out zs (x ∷ drop (j + 1) ys)) left (subst (λ zs. IsMerging cmp xs ys out (drop i xs) zs) right m) in
        subst (λ zs. IsMerging cmp xs ys zs (drop (i + 1) xs) (drop (j + 1) ys)) (sym w)
        (step_both xs ys out (drop (i + 1) xs) (drop (j + 1) ys) x here)

  -- taking the right time keeps `IsMerging`
  pub take_right : {xs ys out : List T} (new : List T) (i j : ℕ) (x y : T) → i < length xs → j < length ys → x ≡ get_or xs i x → y ≡ get_or ys j y → cmp x y ≡ Greater → new ≡ out ++ y ∷ [] → IsMerging cmp xs ys out (drop i xs) (drop j ys) → IsMerging cmp xs ys new (drop i xs) (drop (j + 1) ys)
  take_right {xs} {ys} {out} new i j x y h k e d g w m =
      let less : cmp y x ≡ Less = total.antisymm y x ∙ ap ordering_reverse g in
      turned ys xs new (drop (j + 1) ys) (drop i xs) (take_left new j i y x k h d e less w (turned xs ys out (drop i xs) (drop j ys) m))

  -- writing the rest of both lists ends the merge
  pub ends : {xs ys out mid new : List T} (i j : ℕ) → (i < length xs → j < length ys → ⊥) → mid ≡ out ++ take (length xs - i) (drop i xs) → new ≡ mid ++ take (length ys - j) (drop j ys) → IsMerging cmp xs ys out (drop i xs) (drop j ys) → IsMerging cmp xs ys new [] []
  ends {xs} {ys} {out} {mid} {new} i j n e d m =
      let left = length-drop i xs in
      let right = length-drop j ys in
      let ended : 0 < length (drop i xs) → 0 < length (drop j ys) → ⊥ = λ h k. n (omega (arith, h, left)) (omega (arith, k, right)) in
      let first : mid ≡ out ++ drop i xs = e ∙ ap (λ zs. out ++ zs) (take_rest xs i) in
      let second : new ≡ mid ++ drop j ys = d ∙ ap (λ zs. mid ++ zs) (take_rest ys j) in
      subst (λ zs. IsMerging cmp xs ys zs [] []) (sym (second ∙ ap (λ zs. zs ++ drop j ys) first))
      (rests xs ys out (drop i xs) (drop j ys) ended m)

-- at the end of a merge the output ascends and has the times of both lists
module _ {T : Type 0} {cmp : T → T → Ordering} {xs ys out : List T} (m : IsMerging cmp xs ys out [] []) where
  pub merged_ascending : IsStrictlySortedBy cmp out
  merged_ascending = subst (IsStrictlySortedBy cmp) (append-nil out) m.ascending_left

  pub merged_members : (t : T) → Member t out ↔ (Member t xs ⊎ Member t ys)
  merged_members t = (
    (λ k. (m.members t).0 (inl k)),
    (λ k. ⊎_elim (λ h. h) (λ r. ⊎_elim (λ n. absurd n) (λ n. absurd n) r) ((m.members t).1 k)),
  )
