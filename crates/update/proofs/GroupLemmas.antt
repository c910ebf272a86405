-- The group sums of a list whose groups are neighbours: no two have the same row and time, they are
-- sorted as the list is, none has difference 0, and the totals stay.
use Rattle.std.proofs.Common.{◌≡◌, ◌≢◌, ℕ, suc, ◌<◌, Bool, true, false, cond, ◌&&◌, List, [], ◌∷◌, ◌++◌, length, get_or, ℤ, pos, ◌+ℤ◌, refl, sym, ◌∙◌, ap, ◌⊎◌, inl, inr, ⊎_elim, arith}
use Rattle.std.specs.Prelude.{⊤}
use Rattle.std.specs.List.{AllByRecursion, list_any}
use Rattle.std.specs.List.Sorted.{IsSortedBy, IsStrictlySortedBy}
use Rattle.std.specs.Cmp.{IsTotalOrder, signed_Decides}
use Rattle.std.specs.Cmp.Rules.{signed_items}
use Rattle.std.proofs.Math.IntN.{+ℤ_idr}
use Rattle.update.proofs.SumLemmas.{total_by-append}
use Rattle.std.specs.Ordering.{int_eq, is_eq, is_gt, is_lt, ordering_reverse}
use Rattle.std.proofs.lemmas.Cmp.{alike_right, tied_itself}
use Rattle.std.proofs.lemmas.Bool.{and_from, and_parts, true≢false}
use Rattle.std.proofs.lemmas.Int.{ints}
use Rattle.std.proofs.lemmas.List.Elements.{recursion_from_All}
use Rattle.std.proofs.lemmas.List.Sorted.{sorted_far, ranks_by}
use Rattle.std.specs.declared.cmp.Ordering.{Ordering}
use Rattle.std.specs.declared.cmp.Ordering.TheVariants.{Less, Equal, Greater}
use Rattle.lattice.specs.Times.{Times}
use Rattle.lattice.specs.Order.{PartialOrderLaws}
use Rattle.update.specs.declared.change.Update.{Update}
use Rattle.update.specs.Bags.{same_row}
use Rattle.update.specs.Updates.{total_where, is_doubled, AreApart}
use Rattle.update.specs.Groups.{Group, is_same, group_sum, group_sums, groups_of, groups_from, IsGrouped, OrdersGroups}

less_from : (a : Ordering) → is_gt a ≡ false → is_eq a ≡ false → a ≡ Less
less_from Less g e = refl
less_from Equal g e = absurd (true≢false e)
less_from Greater g e = absurd (true≢false g)

equal_from : (a : Ordering) → is_eq a ≡ true → a ≡ Equal
equal_from Less e = absurd (true≢false (sym e))
equal_from Equal e = refl
equal_from Greater e = absurd (true≢false (sym e))

-- a comparison that is not greater is less or equal
upto_cases : (a : Ordering) → is_gt a ≡ false → (a ≡ Less) ⊎ (a ≡ Equal)
upto_cases Less g = inl refl
upto_cases Equal g = inr refl
upto_cases Greater g = absurd (true≢false g)

all_append : {X : Type 0} (P : X → Type 0) (xs ys : List X) → AllByRecursion P xs → AllByRecursion P ys → AllByRecursion P (xs ++ ys)
all_append P [] ys a b = b
all_append P (x ∷ xs) ys a b = (a.0, all_append P xs ys a.1 b)

module _ {T : Type 0} (cmp : T → T → Ordering) where
  -- the updates of the list have another row or time than u
  abbrev pub AreOther : Update T → List (Update T) → Type 0
  AreOther u us = AllByRecursion (λ v. is_same cmp u v ≡ false) us

  abbrev IsFollowed : Update T → List (Update T) → Type 0
  IsFollowed u [] = ⊤
  IsFollowed u (v ∷ vs) = is_same cmp u v ≡ false → AreOther u vs

  -- an update that is unlike the next one is unlike all later ones
  abbrev pub AreNeighbours : List (Update T) → Type 0
  AreNeighbours [] = ⊤
  AreNeighbours (u ∷ us) = IsFollowed u us × AreNeighbours us

  unlike_later : (u v : Update T) (vs : List (Update T)) → is_same cmp u v ≡ false
      → ((k : ℕ) (d : Update T) → k < length vs → is_same cmp u (get_or vs k d) ≡ true → is_same cmp u v ≡ true) → AreOther u vs
  unlike_later u v vs e g =
      recursion_from_All (λ w. is_same cmp u w ≡ false) vs
      (λ k d l. by (is_same cmp u (get_or vs k d)) (λ h. true≢false (sym (g k d l h) ∙ e)))
    where
      by : (b : Bool) → (b ≡ true → ⊥) → b ≡ false
      by true h = absurd (h refl)
      by false h = refl

  -- in a grouped list the updates of one row and time are neighbours
  pub grouped_neighbours : (us : List (Update T)) → IsGrouped cmp us → AreNeighbours us
  grouped_neighbours [] g = tt
  grouped_neighbours (u ∷ []) g = (tt, tt)
  grouped_neighbours (u ∷ (v ∷ vs)) g = (
    λ e. unlike_later u v vs e (λ k d l. g 0 1 (suc (suc k)) d (omega arith) (omega arith) (omega (arith, l))),
    grouped_neighbours (v ∷ vs) (λ i j k d a b c. g (suc i) (suc j) (suc k) d (omega (arith, a)) (omega (arith, b)) (omega (arith, c))),
  )

  -- a property that does not depend on the diff holds of the group sum if it holds of the group's
  -- first update
  settled_all : (P : Update T → Type 0) → ((u : Update T) (n : ℤ) → P u → P (record u { diff = n })) → (u : Update T) (n : ℤ) → P u → AllByRecursion P (group_sum u n)
  settled_all P keeps u n p =
      elim (int_eq n (pos 0)) as (λ b. AllByRecursion P (cond b [] (record u { diff = n } ∷ []))) [
        | true ↦ tt
        | false ↦ (keeps u n p, tt)
      ]

  -- a property that does not depend on the diff holds of all group sums if it holds of all updates
  pub left_all : (P : Update T → Type 0) → ((u : Update T) (n : ℤ) → P u → P (record u { diff = n })) → (u : Update T) (n : ℤ) (vs : List (Update T)) → P u → AllByRecursion P vs → AllByRecursion P (group_sums (groups_of cmp u n vs))
  left_all P keeps u n [] p a = all_append P (group_sum u n) [] (settled_all P keeps u n p) tt
  left_all P keeps u n (v ∷ vs) p a =
      elim (is_same cmp u v) as (λ b. AllByRecursion P (group_sums (cond b (groups_of cmp u (n +ℤ v.diff) vs) (record { first = u; total = n } ∷ groups_of cmp v v.diff vs)))) [
        | true ↦ left_all P keeps u (n +ℤ v.diff) vs p a.1
        | false ↦ all_append P (group_sum u n) (group_sums (groups_of cmp v v.diff vs)) (settled_all P keeps u n p) (left_all P keeps v v.diff vs a.0 a.1)
      ]

module _ {T : Type 0} {order : Update T → Update T → Ordering} (total : IsTotalOrder order) where
  -- no update of the list comes before u
  abbrev AllFrom : Update T → List (Update T) → Type 0
  AllFrom u us = AllByRecursion (λ v. is_gt (order u v) ≡ false) us

  -- all updates of the list come after u
  abbrev AllAfter : Update T → List (Update T) → Type 0
  AllAfter u us = AllByRecursion (λ v. order u v ≡ Less) us

  -- the list is sorted; updates of one row and time may follow one another
  abbrev Ascends : List (Update T) → Type 0
  Ascends [] = ⊤
  Ascends (u ∷ us) = AllFrom u us × Ascends us

  not_gt : (a b : Ordering) → a ≡ ordering_reverse b → is_lt a ≡ false → is_gt b ≡ false
  not_gt a Less e h = refl
  not_gt a Equal e h = refl
  not_gt a Greater e h = absurd (true≢false (sym (ap is_lt e) ∙ h))

  -- the list is sorted by the order
  abbrev pub IsSorted : List (Update T) → Type 0
  IsSorted xs = IsSortedBy (λ x y. is_lt (order x y)) xs

  far : (xs : List (Update T)) → IsSorted xs → (i j : ℕ) (d : Update T) → i < j → j < length xs → is_gt (order (get_or xs i d) (get_or xs j d)) ≡ false
  far xs s i j d l m =
      not_gt (order (get_or xs j d) (get_or xs i d)) (order (get_or xs i d) (get_or xs j d)) (total.antisymm (get_or xs j d) (get_or xs i d))
      (sorted_far (λ x y. is_lt (order x y)) (ranks_by total (λ u. u)) xs s i j d (omega (arith, l)) m)

  ascends_by : (xs : List (Update T)) → ((i j : ℕ) (d : Update T) → i < j → j < length xs → is_gt (order (get_or xs i d) (get_or xs j d)) ≡ false) → Ascends xs
  ascends_by [] h = tt
  ascends_by (u ∷ us) h = (
    recursion_from_All (λ v. is_gt (order u v) ≡ false) us (λ k d l. h 0 (suc k) d (omega arith) (omega (arith, l))),
    ascends_by us (λ i j d l m. h (suc i) (suc j) d (omega (arith, l)) (omega (arith, m))),
  )

  before_then_upto : (u v w : Update T) → order u v ≡ Less → is_gt (order v w) ≡ false → order u w ≡ Less
  before_then_upto u v w l g =
      ⊎_elim
      (λ m. total.trans u v w l m)
      (λ e. sym (alike_right total v w u e) ∙ l)
      (upto_cases (order v w) g)

  after_all : (u v : Update T) (vs : List (Update T)) → order u v ≡ Less → AllFrom v vs → AllAfter u vs
  after_all u v [] l a = tt
  after_all u v (w ∷ ws) l a = (before_then_upto u v w l a.0, after_all u v ws l a.1)

  alike_left : (a b c : Update T) → order a b ≡ Equal → order a c ≡ order b c
  alike_left a b c e =
      total.antisymm a c ∙ ap ordering_reverse (alike_right total a b c e) ∙ sym (total.antisymm b c)

module _ {T : Type 0} {cmp : T → T → Ordering} {order : Update T → Update T → Ordering} (ts : IsTotalOrder cmp) (g : OrdersGroups cmp order) where
  -- a list that is sorted by row and time is grouped
  pub sorted_grouped : (xs : List (Update T)) → IsSorted g.total xs → IsGrouped cmp xs
  sorted_grouped xs s i j k d a b c same =
      let x = get_or xs i d in
      let y = get_or xs j d in
      let z = get_or xs k d in
      let tie : order x z ≡ Equal = equal_from (order x z) (g.ties x z ∙ same) in
      sym (g.ties x y) ∙ by x y z tie (order x y) refl (far g.total xs s i j d a (omega (arith, b, c))) (far g.total xs s j k d b c)
    where
      by : (x y z : Update T) → order x z ≡ Equal → (o : Ordering) → order x y ≡ o → is_gt o ≡ false → is_gt (order y z) ≡ false → is_eq o ≡ true
      by x y z tie Less e p q = absurd (true≢false (sym (ap is_eq tie) ∙ ap is_eq (before_then_upto g.total x y z e q)))
      by x y z tie Equal e p q = refl
      by x y z tie Greater e p q = absurd (true≢false p)

  -- the order does not look at differences
  same_itself : (u : Update T) (n : ℤ) → is_same cmp (record u { diff = n }) u ≡ true
  same_itself u n = and_from (is_eq (cmp u.time u.time)) (same_row u.row u.row) (ap is_eq (tied_itself ts u.time)) ((signed_items u.row u.row).1 refl)

  ties_itself : (u : Update T) (n : ℤ) → order (record u { diff = n }) u ≡ Equal
  ties_itself u n = equal_from (order (record u { diff = n }) u) (g.ties (record u { diff = n }) u ∙ same_itself u n)

  after_sum : (u : Update T) (n : ℤ) (ws : List (Update T)) → AllAfter g.total u ws → AllAfter g.total (record u { diff = n }) ws
  after_sum u n [] a = tt
  after_sum u n (w ∷ ws) a = (alike_left g.total (record u { diff = n }) u w (ties_itself u n) ∙ a.0, after_sum u n ws a.1)

  sorted_join : (u : Update T) (n : ℤ) (ws : List (Update T)) → AllAfter g.total u ws → IsStrictlySortedBy order ws → IsStrictlySortedBy order (group_sum u n ++ ws)
  unfolding IsStrictlySortedBy
  sorted_join u n ws a s =
      elim (int_eq n (pos 0)) as (λ b. IsStrictlySortedBy order (cond b [] (record u { diff = n } ∷ []) ++ ws)) [
        | true ↦ s
        | false ↦ (after_sum u n ws a, s)
      ]

  sorted_none : IsStrictlySortedBy order []
  unfolding IsStrictlySortedBy
  sorted_none = tt

  -- if the next update is of another group, then all later updates come after u
  rest_after : (u v : Update T) (vs : List (Update T)) → Ascends g.total (u ∷ (v ∷ vs)) → is_same cmp u v ≡ false → AllAfter g.total u (v ∷ vs)
  rest_after u v vs a h =
      let l = less_from (order u v) a.0.0 (g.ties u v ∙ h) in
      (l, after_all g.total u v vs l a.1.0)

  -- the group sums are strictly sorted, so each row and time occurs once
  left_sorted : (u : Update T) (n : ℤ) (vs : List (Update T)) → Ascends g.total (u ∷ vs) → IsStrictlySortedBy order (group_sums (groups_of cmp u n vs))
  left_sorted u n [] a = sorted_join u n [] tt sorted_none
  left_sorted u n (v ∷ vs) a =
      elim (is_same cmp u v) as (λ b. is_same cmp u v ≡ b → IsStrictlySortedBy order (group_sums (cond b (groups_of cmp u (n +ℤ v.diff) vs) (record { first = u; total = n } ∷ groups_of cmp v v.diff vs)))) [
        | true ↦ λ e. left_sorted u (n +ℤ v.diff) vs (a.0.1, a.1.1)
        | false ↦ λ e.
            let after = rest_after u v vs a e in
            sorted_join u n (group_sums (groups_of cmp v v.diff vs))
            (left_all cmp (λ w. order u w ≡ Less) (λ w m h. alike_right g.total (record w { diff = m }) w u (ties_itself w m) ∙ h) v v.diff vs after.0 after.1)
            (left_sorted v v.diff vs a.1)
      ] refl

  -- the group sums of a sorted list are strictly sorted
  pub sums_sorted : (xs : List (Update T)) → IsSorted g.total xs → IsStrictlySortedBy order (group_sums (groups_from cmp xs))
  sums_sorted [] s = sorted_none
  sums_sorted (u ∷ us) s = left_sorted u u.diff us (ascends_by g.total (u ∷ us) (far g.total (u ∷ us) s))

-- group sums have a difference
int_tied : (n : ℤ) → n ≡ pos 0 → int_eq n (pos 0) ≡ true
int_tied n e = rw e refl

settled_nonzero : {T : Type 0} (u : Update T) (n : ℤ) → AllByRecursion (λ w. w.diff ≢ pos 0) (group_sum u n)
settled_nonzero u n =
    elim (int_eq n (pos 0)) as (λ b. int_eq n (pos 0) ≡ b → AllByRecursion (λ w. w.diff ≢ pos 0) (cond b [] (record u { diff = n } ∷ []))) [
      | true ↦ λ e. tt
      | false ↦ λ e. ((λ z. true≢false (sym (int_tied n z) ∙ e)), tt)
    ] refl

-- no group sum has difference 0
pub left_nonzero : {T : Type 0} (rs : List (Group T)) → AllByRecursion (λ w. w.diff ≢ pos 0) (group_sums rs)
left_nonzero [] = tt
left_nonzero (r ∷ rs) = all_append (λ w. w.diff ≢ pos 0) (group_sum r.first r.total) (group_sums rs) (settled_nonzero r.first r.total) (left_nonzero rs)

-- the totals stay
module _ {T : Type 0} {cmp : T → T → Ordering} (exact : (s t : T) → cmp s t ≡ Equal → s ≡ t) where
  -- updates of one group pass the same tests
  pub same_passes : (p : List ℤ → T → Bool) (u v : Update T) → is_same cmp u v ≡ true → p u.row u.time ≡ p v.row v.time
  same_passes p u v h =
      let parts = and_parts (is_eq (cmp u.time v.time)) (same_row u.row v.row) h in
      let time = exact u.time v.time (equal_from (cmp u.time v.time) parts.0) in
      let row = (signed_items u.row v.row).0 parts.1 in
      ap (λ r. p r u.time) row ∙ ap (p v.row) time

  total_settled : (p : List ℤ → T → Bool) (u : Update T) (n : ℤ) → total_where p (group_sum u n) ≡ cond (p u.row u.time) n (pos 0)
  total_settled p u n =
      elim (int_eq n (pos 0)) as (λ b. int_eq n (pos 0) ≡ b → total_where p (cond b [] (record u { diff = n } ∷ [])) ≡ cond (p u.row u.time) n (pos 0)) [
        | true ↦ λ e. nothing (p u.row u.time) n ((signed_Decides n (pos 0)).0 e)
        | false ↦ λ e. +ℤ_idr (cond (p u.row u.time) n (pos 0))
      ] refl
    where
      nothing : (b : Bool) (n : ℤ) → n ≡ pos 0 → pos 0 ≡ cond b n (pos 0)
      nothing true n e = sym e
      nothing false n e = refl

  -- arithmetic: one more update in the total of a group
  pub more_of : (b c : Bool) (n d r : ℤ) → b ≡ c → cond b (n +ℤ d) (pos 0) +ℤ r ≡ cond b n (pos 0) +ℤ (cond c d (pos 0) +ℤ r)
  more_of b true n d r e = rw e (omega (arith, ints))
  more_of b false n d r e = rw e (omega (arith, ints))

  -- the group sums have the totals of the list
  pub left_total : (p : List ℤ → T → Bool) (u : Update T) (n : ℤ) (vs : List (Update T)) → total_where p (group_sums (groups_of cmp u n vs)) ≡ cond (p u.row u.time) n (pos 0) +ℤ total_where p vs
  left_total p u n [] = total_by-append (λ w. cond (p w.row w.time) w.diff (pos 0)) (group_sum u n) [] ∙ ap (λ x. x +ℤ pos 0) (total_settled p u n)
  left_total p u n (v ∷ vs) =
      elim (is_same cmp u v) as (λ b. is_same cmp u v ≡ b → total_where p (group_sums (cond b (groups_of cmp u (n +ℤ v.diff) vs) (record { first = u; total = n } ∷ groups_of cmp v v.diff vs))) ≡ cond (p u.row u.time) n (pos 0) +ℤ (cond (p v.row v.time) v.diff (pos 0) +ℤ total_where p vs)) [
        | true ↦ λ e. left_total p u (n +ℤ v.diff) vs ∙ more_of (p u.row u.time) (p v.row v.time) n v.diff (total_where p vs) (same_passes p u v e)
        | false ↦ λ e.
            total_by-append (λ w. cond (p w.row w.time) w.diff (pos 0)) (group_sum u n) (group_sums (groups_of cmp v v.diff vs))
            ∙ ap (λ x. x +ℤ total_where p (group_sums (groups_of cmp v v.diff vs))) (total_settled p u n)
            ∙ ap (λ x. cond (p u.row u.time) n (pos 0) +ℤ x) (left_total p v v.diff vs)
      ] refl

  same_alike : (u v x : Update T) → is_same cmp u v ≡ true → is_same cmp u x ≡ is_same cmp v x
  same_alike u v x h =
      let parts = and_parts (is_eq (cmp u.time v.time)) (same_row u.row v.row) h in
      let time = exact u.time v.time (equal_from (cmp u.time v.time) parts.0) in
      let row = (signed_items u.row v.row).0 parts.1 in
      ap (λ t. is_eq (cmp t x.time) && same_row u.row x.row) time ∙ ap (λ r. is_eq (cmp v.time x.time) && same_row r x.row) row

  others_alike : (u v : Update T) → is_same cmp u v ≡ true → (ws : List (Update T)) → AreOther cmp v ws → AreOther cmp u ws
  others_alike u v h [] a = tt
  others_alike u v h (w ∷ ws) a = (same_alike u v w h ∙ a.0, others_alike u v h ws a.1)

  -- neighbours stay neighbours without the second of a group
  pub skip_second : (u v : Update T) (vs : List (Update T)) → is_same cmp u v ≡ true → AreNeighbours cmp (u ∷ (v ∷ vs)) → AreNeighbours cmp (u ∷ vs)
  skip_second u v [] h a = (tt, tt)
  skip_second u v (w ∷ ws) h a = (
    λ e. others_alike u v h ws (a.1.0 (sym (same_alike u v w h) ∙ e)),
    a.1.1,
  )

  -- the group sums of neighbours have each row and time once
  module _ {times : Times T} (o : PartialOrderLaws times) (ts : IsTotalOrder cmp) where
    unlike : (u w : Update T) → is_same cmp u w ≡ false → is_doubled times u w ≡ false
    unlike u w e = by (is_doubled times u w) refl
      where
        by : (b : Bool) → is_doubled times u w ≡ b → b ≡ false
        by true h =
            let parts = and_parts (times.below u.time w.time && times.below w.time u.time) (same_row u.row w.row) h in
            let ties = and_parts (times.below u.time w.time) (times.below w.time u.time) parts.0 in
            let time = o.antisymmetric u.time w.time ties.0 ties.1 in
            let same = and_from (is_eq (cmp u.time w.time)) (same_row u.row w.row) (ap (λ t. is_eq (cmp t w.time)) time ∙ ap is_eq (tied_itself ts w.time)) parts.1 in
            absurd (true≢false (sym same ∙ e))
        by false h = refl

    none_doubled : (u : Update T) (ws : List (Update T)) → AreOther cmp u ws → list_any (is_doubled times u) ws ≡ false
    none_doubled u [] a = refl
    none_doubled u (w ∷ ws) a = rw (unlike u w a.0, none_doubled u ws a.1) refl

    apart_join : (u : Update T) (n : ℤ) (ws : List (Update T)) → AreOther cmp u ws → AreApart times ws → AreApart times (group_sum u n ++ ws)
    apart_join u n ws a s =
        elim (int_eq n (pos 0)) as (λ b. AreApart times (cond b [] (record u { diff = n } ∷ []) ++ ws)) [
          | true ↦ s
          | false ↦ (none_doubled u ws a, s)
        ]

    pub left_apart : (u : Update T) (n : ℤ) (vs : List (Update T)) → AreNeighbours cmp (u ∷ vs) → AreApart times (group_sums (groups_of cmp u n vs))
    left_apart u n [] a = apart_join u n [] tt tt
    left_apart u n (v ∷ vs) a =
        elim (is_same cmp u v) as (λ b. is_same cmp u v ≡ b → AreApart times (group_sums (cond b (groups_of cmp u (n +ℤ v.diff) vs) (record { first = u; total = n } ∷ groups_of cmp v v.diff vs)))) [
          | true ↦ λ e. left_apart u (n +ℤ v.diff) vs (skip_second u v vs e a)
          | false ↦ λ e.
              apart_join u n (group_sums (groups_of cmp v v.diff vs))
              (left_all cmp (λ w. is_same cmp u w ≡ false) (λ w m h. h) v v.diff vs e (a.0 e))
              (left_apart v v.diff vs a.1)
        ] refl
