-- Adding new times to the joined times of a key: what the loops keep from one time to the next, and
-- what the lists are at the end.
use Rattle.std.proofs.Common.{◌≡◌, ◌↔◌, ℕ, ◌<◌, ◌≤◌, ◌+◌, ◌-◌, true, List, [], ◌∷◌, ◌++◌, map, length, get_or, take, drop, ◌⊎◌, inl, inr, ⊎_elim, refl, sym, ap, subst, ◌∙◌, append_assoc, length-append, arith}
use Rattle.std.proofs.lemmas.List.{append-nil, map-append, take-append-drop, take_more, take_all, take_rest, drop_at, drop_all, drop_more, get_or-append_right}
use Rattle.lattice.specs.Times.{Times}
use Rattle.lattice.specs.Order.{PartialOrderLaws, LatticeLaws}
use Rattle.joined_times.specs.Joined.{Member}
use Rattle.joined_times.specs.Additions.{SameMembers, joins_with, IsLast, Appends, IsFreshBy, AreBetween}
use Rattle.joined_times.proofs.MemberLemmas.{member_at, member_last, pushed_members, append_members, itself, through, back, in_each, regrouped, exchanged}
use Rattle.joined_times.proofs.FreshLemmas.{none_fresh, new_same, one_fresh, fresh_parted, fresh_halves}

-- one of three facts, with the last two exchanged
last_exchanged : (A B C : Type 0) → ((A ⊎ B) ⊎ C) ↔ ((A ⊎ C) ⊎ B)
last_exchanged A B C =
    through (regrouped A B C) (through (in_each itself (exchanged B C)) (back (regrouped A C B)))

module _ {T : Type 0} where
  -- a step of a loop over a list: one element more is read
  one_more : (xs : List T) (i : ℕ) (x : T) → i < length xs → x ≡ get_or xs i x → take (i + 1) xs ≡ take i xs ++ x ∷ []
  one_more xs i x l e = take_more xs i x l ∙ ap (λ y. take i xs ++ (y ∷ [])) (sym e)

  -- what was pushed unless it was the last already
  abbrev pub PushedOnce : T → List T → List T → Type 0
  PushedOnce t old new = (new ≡ old ++ t ∷ []) ⊎ ((new ≡ old) × IsLast t old)

  -- either way it is a member from then on
  pub pushed_once : (t : T) (old new : List T) → PushedOnce t old new → (s : T) → Member s new ↔ (Member s old ⊎ (s ≡ t))
  pushed_once t old new pushed s =
      ⊎_elim
      (λ e. subst (λ ts. Member s ts ↔ (Member s old ⊎ (s ≡ t))) (sym e) (pushed_members s t old))
      (λ l. subst (λ ts. Member s ts ↔ (Member s old ⊎ (s ≡ t))) (sym l.0)
      ((λ m. inl m), (λ m. ⊎_elim (λ k. k) (λ d. subst (λ r. Member r old) (sym d) (member_last old t l.1.0 l.1.1)) m)))
      pushed

  -- if something is appended, then the last of the whole is the last of this
  last_appended : (before added : List T) (t s : T) → Member s added → IsLast t (before ++ added) → IsLast t added
  last_appended before [] t s m l = absurd m
  last_appended before (a ∷ added) t s m l =
      let both = length-append before (a ∷ added) in
      let at : length before ≤ length (before ++ a ∷ added) - 1 = omega (arith, both) in
      let same : (length (before ++ a ∷ added) - 1) - length before ≡ length (a ∷ added) - 1 = omega (arith, both) in
      (omega arith, l.1 ∙ (get_or-append_right before (a ∷ added) (length before) (length (before ++ a ∷ added) - 1) t refl at ∙ ap (λ i. get_or (a ∷ added) i t) same))

  -- what was appended is what comes after the times before
  pub rest_appended : (before now : List T) (P : T → Type 0) → (a : Appends before now P) → (n : ℕ) → n ≡ length before → take (length now - n) (drop n now) ≡ a.0
  rest_appended before now P a n e = take_rest now n ∙ (ap (drop n) a.1 ∙ drop_at before a.0 n (sym e))

module _ {T : Type 0} (times : Times T) where
  -- without new times nothing is appended
  pub appends_none : (new near before : List T) → length new ≡ 0 → Appends before before (IsFreshBy times new near)
  appends_none new near before l =
      let none : [] ≡ new = sym (drop_all 0 new (omega (arith, l))) in
      ([], sym (append-nil before), λ t. subst (λ ts. Member t [] ↔ IsFreshBy times ts near t) none ((λ m. absurd m), (λ f. absurd (none_fresh times near t f))))

  -- a step of the loop that joins a time with each of a list
  pub joins_with_more : (n s join : T) (ts : List T) (i : ℕ) (old new : List T) → i < length ts → s ≡ get_or ts i s → join ≡ times.joined s n → SameMembers old (joins_with times n (take i ts)) → ((t : T) → Member t new ↔ (Member t old ⊎ (t ≡ join))) → SameMembers new (joins_with times n (take (i + 1) ts))
  joins_with_more n s join ts i old new l e d so more t =
      let before = joins_with times n (take i ts) in
      let next : joins_with times n (take (i + 1) ts) ≡ before ++ times.joined s n ∷ [] = ap (joins_with times n) (one_more ts i s l e) ∙ ap (λ rs. n ∷ rs) (map-append (λ r. times.joined r n) (take i ts) (s ∷ [])) in
      let images : joins_with times n (take (i + 1) ts) ≡ before ++ join ∷ [] = next ∙ ap (λ r. before ++ r ∷ []) (sym d) in
      subst (λ rs. Member t new ↔ Member t rs) (sym images)
      (through (more t) (through (in_each (so t) itself) (back (pushed_members t join before))))

  module _ (n : T) (ts before : List T) (i : ℕ) where
    -- the same where the joins are appended to others
    pub appends_more : (s join : T) (old new : List T) → i < length ts → s ≡ get_or ts i s → join ≡ times.joined s n → PushedOnce join old new → Appends before old (λ t. Member t (joins_with times n (take i ts))) → Appends before new (λ t. Member t (joins_with times n (take (i + 1) ts)))
    appends_more s join old new l e d pushed a =
        let added = a.0 in
        ⊎_elim
        (λ p. (
          added ++ join ∷ [],
          p ∙ (ap (λ xs. xs ++ join ∷ []) a.1 ∙ append_assoc before added (join ∷ [])),
          joins_with_more n s join ts i added (added ++ join ∷ []) l e d a.2 (λ t. pushed_members t join added),
        ))
        (λ p.
        let last = last_appended before added join n ((a.2 n).1 (inl refl)) (subst (IsLast join) a.1 p.1) in
        (added, p.0 ∙ a.1, joins_with_more n s join ts i added added l e d a.2 (pushed_once join added added (inr (refl, last)))))
        pushed

    -- the end of that loop
    pub appends_all : (now : List T) → length ts ≤ i → Appends before now (λ t. Member t (joins_with times n (take i ts))) → Appends before now (λ t. Member t (joins_with times n ts))
    appends_all now l a = subst (λ rs. Appends before now (λ t. Member t (joins_with times n rs))) (take_all i ts l) a

-- ---- near times in two parts

module _ {T : Type 0} where
  -- both parts begin empty
  pub empty_parts : (t : T) (within beyond : List T) (A : Type 0) → within ≡ [] → beyond ≡ [] → ((Member t within ⊎ Member t beyond) ⊎ A) ↔ A
  empty_parts t within beyond A e d =
      let none : Member t within ⊎ Member t beyond → ⊥ =
      λ m. ⊎_elim (λ k. subst (Member t) e k) (λ k. subst (Member t) d k) m in
      ((λ m. ⊎_elim (λ k. absurd (none k)) (λ a. a) m), (λ a. inr a))

  -- a time was pushed to the part within the bounds
  pub pushed_within : (t s : T) (within beyond now : List T) → PushedOnce t within now → (Member s now ⊎ Member s beyond) ↔ ((Member s within ⊎ Member s beyond) ⊎ (s ≡ t))
  pushed_within t s within beyond now p =
      through (in_each (pushed_once t within now p s) itself) (last_exchanged (Member s within) (s ≡ t) (Member s beyond))

  -- a time was pushed to the part beyond the bounds
  pub pushed_beyond : (t s : T) (within beyond now : List T) → PushedOnce t beyond now → (Member s within ⊎ Member s now) ↔ ((Member s within ⊎ Member s beyond) ⊎ (s ≡ t))
  pushed_beyond t s within beyond now p =
      through (in_each itself (pushed_once t beyond now p s)) (back (regrouped (Member s within) (Member s beyond) (s ≡ t)))

  -- a time that was pushed there is at or after the bound
  pub pushed_late : (late : T → Type 0) (t : T) (beyond now : List T) → PushedOnce t beyond now → late t → (s : T) → Member s now → Member s beyond ⊎ late s
  pushed_late late t beyond now p l s m =
      ⊎_elim (λ k. inl k) (λ e. inr (subst late (sym e) l)) ((pushed_once t beyond now p s).0 m)

  -- a step of the loop that moves each near time
  pub moved_more : (f : T → T) (near : List T) (i : ℕ) (s moved t : T) (A B C : Type 0) → i < length near → s ≡ get_or near i s → moved ≡ f s → (B ↔ (A ⊎ Member t (map f (take i near)))) → (C ↔ (B ⊎ (t ≡ moved))) → C ↔ (A ⊎ Member t (map f (take (i + 1) near)))
  moved_more f near i s moved t A B C l e d so more =
      let next : map f (take (i + 1) near) ≡ map f (take i near) ++ moved ∷ [] = ap (map f) (one_more near i s l e) ∙ (map-append f (take i near) (s ∷ []) ∙ ap (λ r. map f (take i near) ++ r ∷ []) (sym d)) in
      subst (λ rs. C ↔ (A ⊎ Member t rs)) (sym next)
      (through more (through (in_each so itself) (through (regrouped A (Member t (map f (take i near))) (t ≡ moved))
      (in_each itself (back (pushed_members t moved (map f (take i near))))))))

-- the same step, for those beyond the bounds: each was there before the loop, or is late
pub late_more : (before so_far now late : Type 0) → (so_far → before ⊎ late) → (now → so_far ⊎ late) → now → before ⊎ late
late_more before so_far now late was more m = ⊎_elim (λ k. was k) (λ l. inr l) (more m)

-- ---- all new times

module _ {T : Type 0} {times : Times T} (o : PartialOrderLaws times) (b : LatticeLaws times) where
  -- a step of the loop that takes the bounds of a list
  pub between_more : (first low high t low_now high_now : T) (ts : List T) (i : ℕ) → i < length ts → t ≡ get_or ts i t → low_now ≡ times.met low t → high_now ≡ times.joined high t → AreBetween times low high (first ∷ take i ts) → AreBetween times low_now high_now (first ∷ take (i + 1) ts)
  between_more first low high t low_now high_now ts i l e d f between s m =
      let so_far = first ∷ take i ts in
      let more : first ∷ take (i + 1) ts ≡ so_far ++ t ∷ [] = ap (λ rs. first ∷ rs) (one_more ts i t l e) in
      subst (λ r. (times.below r s ≡ true) × (times.below s high_now ≡ true)) (sym d)
      (subst (λ r. (times.below (times.met low t) s ≡ true) × (times.below s r ≡ true)) (sym f)
      (⊎_elim
      (λ k. let was = between s k in (o.transitive _ _ _ (b.meet_left low t) was.0, o.transitive _ _ _ was.1 (b.join_left high t)))
      (λ k. subst (λ r. (times.below (times.met low t) r ≡ true) × (times.below r (times.joined high t) ≡ true)) (sym k) (b.meet_right low t, b.join_right high t))
      ((pushed_members s t so_far).0 (subst (Member s) more m))))

  -- one new time
  pub appends_one : (new near before now : List T) (n : T) → length new ≡ 1 → n ≡ get_or new 0 n → Appends before now (λ t. Member t (joins_with times n near)) → Appends before now (IsFreshBy times new near)
  appends_one new near before now n l e a =
      let none : drop 1 new ≡ [] = drop_all 1 new (omega (arith, l)) in
      let one : n ∷ [] ≡ new = ap (λ ts. n ∷ ts) (sym none) ∙ (ap (λ s. s ∷ drop 1 new) e ∙ sym (drop_more new 0 n (omega (arith, l)))) in
      (a.0, a.1, λ t. subst (λ ts. Member t a.0 ↔ IsFreshBy times ts near t) one (through (a.2 t) (one_fresh o b n near t)))

  -- more new times, half by half: `within` and `beyond` are the parts of the near times
  module _ (new near within beyond : List T) (low high n : T) (some : 0 < length new) (first_is : n ≡ get_or new 0 n) (bounds : AreBetween times low high (n ∷ take (length new - 1) (drop 1 new))) (parts : (t : T) → (Member t within ⊎ Member t beyond) ↔ Member t (map (λ s. times.joined s low) near)) (late : (t : T) → Member t beyond → times.below high t ≡ true) where
    between : AreBetween times low high new
    between =
        subst (AreBetween times low high) (ap (λ ts. n ∷ ts) (take_rest new 1) ∙ (ap (λ s. s ∷ drop 1 new) first_is ∙ sym (drop_more new 0 n some))) bounds

    appends_halves : (left right : List T) → left ++ right ≡ new → (before start middle now : List T) → start ≡ before ++ beyond → (first : Appends start middle (IsFreshBy times left within)) → Appends middle now (IsFreshBy times right (within ++ first.0)) → Appends before now (IsFreshBy times new near)
    appends_halves left right halves before start middle now e first second =
        let added = first.0 in
        let more = second.0 in
        let whole : now ≡ before ++ (beyond ++ (added ++ more)) =
        second.1 ∙ (ap (λ xs. xs ++ more) (first.1 ∙ ap (λ xs. xs ++ added) e) ∙ (append_assoc (before ++ beyond) added more ∙ append_assoc before beyond (added ++ more))) in (
          beyond ++ (added ++ more),
          whole,
          λ t.
              let by_halves : IsFreshBy times new within t ↔ (IsFreshBy times left within t ⊎ IsFreshBy times right (within ++ added) t) =
              subst (λ ts. IsFreshBy times ts within t ↔ (IsFreshBy times left within t ⊎ IsFreshBy times right (within ++ added) t)) halves (fresh_halves o b left right within added first.2 t) in
              through (append_members t beyond (added ++ more))
              (through (in_each itself (through (append_members t added more) (in_each (first.2 t) (second.2 t))))
              (through (in_each itself (back by_halves))
              (back (fresh_parted o b near new within beyond low high between parts late n (member_at new 0 n some first_is) t)))),
        )

    -- the same as the code slices its lists: each `read` is what a list is when it is passed on,
    -- and what the first half appended is read back from `middle`
    pub appends_slices : (half at : ℕ) (before start middle now : List T) (beyond_read within_read middle_read more more_read : List T) → beyond_read ≡ beyond → start ≡ before ++ beyond_read → at ≡ length start → within_read ≡ within → Appends start middle (IsFreshBy times (take half new) within_read) → middle_read ≡ middle → more ≡ within ++ take (length middle_read - at) (drop at middle_read) → more_read ≡ more → Appends middle now (IsFreshBy times (take (length new - half) (drop half new)) more_read) → Appends before now (IsFreshBy times new near)
    appends_slices half at before start middle now beyond_read within_read middle_read more more_read b_read e l w_read first m_read f more_is second =
        let left = take half new in
        let right = take (length new - half) (drop half new) in
        let both : left ++ right ≡ new = ap (λ xs. left ++ xs) (take_rest new half) ∙ take-append-drop half new in
        let by_left : Appends start middle (IsFreshBy times left within) = subst (λ xs. Appends start middle (IsFreshBy times left xs)) w_read first in
        let added : take (length middle_read - at) (drop at middle_read) ≡ by_left.0 = ap (λ xs. take (length xs - at) (drop at xs)) m_read ∙ rest_appended start middle (IsFreshBy times left within) by_left at l in
        let near_right : more_read ≡ within ++ by_left.0 = more_is ∙ (f ∙ ap (λ xs. within ++ xs) added) in
        appends_halves left right both before start middle now (e ∙ ap (λ xs. before ++ xs) b_read) by_left (subst (λ xs. Appends middle now (IsFreshBy times right xs)) near_right second)

  -- what was appended to an empty list are the fresh times
  pub fresh_all : (elements distinct new before fresh now : List T) → SameMembers new distinct → before ≡ [] → Appends before fresh (IsFreshBy times distinct elements) → SameMembers fresh now → (t : T) → Member t now ↔ IsFreshBy times new elements t
  fresh_all elements distinct new before fresh now same e a once t =
      let appended : fresh ≡ a.0 = a.1 ∙ ap (λ xs. xs ++ a.0) e in
      let is : Member t fresh ↔ IsFreshBy times distinct elements t = subst (λ xs. Member t xs ↔ IsFreshBy times distinct elements t) (sym appended) (a.2 t) in
      through (back (once t)) (through is (back (new_same o b new distinct elements same t)))
