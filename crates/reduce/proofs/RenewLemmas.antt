-- The histories after all visits, and what was given at them, key by key.
use Rattle.std.proofs.Common.{◌≡◌, ℕ, zero, suc, ◌<◌, Bool, true, false, cond, not, ◌||◌, List, [], ◌∷◌, ◌++◌, map, set, take, length, slice_get, Some, IsSomeAnd, refl, sym, ap, subst, ◌∙◌, ◌⊎◌, inl, inr, ⊎_elim, arith}
use Rattle.std.specs.Prelude.{flat_map, ℤ}
use Rattle.std.specs.List.{filter, list_any}
use Rattle.std.specs.declared.cmp.Ordering.{Ordering}
use Rattle.std.proofs.lemmas.Bool.{or_parts, true≢false}
use Rattle.std.proofs.lemmas.List.{append-nil, length-append}
use Rattle.std.proofs.lemmas.List.Elements.{filter-append}
use Rattle.std.proofs.lemmas.Option.{none-some, same_Some}
use Rattle.lattice.specs.Times.{Times}
use Rattle.lattice.specs.Order.{PartialOrderLaws}
use Rattle.lattice.specs.Frontiers.{is_beyond}
use Rattle.update.specs.Bags.{Entry, same_row}
use Rattle.update.specs.Updates.{AreApart, is_doubled}
use Rattle.update.specs.declared.change.Update.{Update}
use Rattle.plan.proofs.CountLemmas.{row_same, row_itself}
use Rattle.joined_times.specs.Joined.{Member, AreOnce, of_key}
use Rattle.reduce.specs.Histories.{HistoryState, IsHistory, AreHistories, AreKeysApart, of_history, due_of, joined_of, given_of, changed_at, given_more, due_left}
use Rattle.reduce.specs.Visits.{Visit, IsVisit, AreVisits, ChangeState, AreWithin, AreCut, renewed, all_renewed, all_changed, changes_of, is_due}
use Rattle.key_history.proofs.ApartLemmas.{apart_both, doubled_is}
use Rattle.reduce.proofs.CommitLemmas.{front_of, behind_front, changed_is}
use Rattle.reduce.proofs.HistoryLemmas.{of_replaced, of_there, apart_replaced}
use Rattle.joined_times.proofs.MemberLemmas.{in_either, image_in, image_of}
use Rattle.key_history.proofs.SettleLemmas.{take_whole}

module _ {X : Type 0} where
  pub set_other : (xs : List X) (i j : ℕ) (x : X) → (i ≡ j → ⊥) → slice_get (set xs i x) j ≡ slice_get xs j
  set_other [] i j x n = refl
  set_other (y ∷ xs) zero zero x n = absurd (n refl)
  set_other (y ∷ xs) zero (suc j) x n = refl
  set_other (y ∷ xs) (suc i) zero x n = refl
  set_other (y ∷ xs) (suc i) (suc j) x n = set_other xs i j x (λ e. n (ap suc e))

  pub set_same : (xs : List X) (i : ℕ) (x : X) → slice_get xs i ≡ Some x → set xs i x ≡ xs
  set_same [] i x e = refl
  set_same (y ∷ xs) zero x e = ap (λ z. z ∷ xs) (sym (same_Some y x e))
  set_same (y ∷ xs) (suc i) x e = ap (λ z. y ∷ z) (set_same xs i x e)

  pub some_there : (P : X → Type 0) (xs : List X) (i : ℕ) (x : X) → slice_get xs i ≡ Some x → P x → IsSomeAnd (slice_get xs i) P
  some_there P xs i x e p = subst (λ o. IsSomeAnd o P) (sym e) p

  no_members : (xs : List X) → ((x : X) → Member x xs → ⊥) → xs ≡ []
  no_members [] n = refl
  no_members (x ∷ xs) n = absurd (n x (inl refl))

  any_from : (p : X → Bool) (xs : List X) (x : X) → Member x xs → p x ≡ true → list_any p xs ≡ true
  any_from p (y ∷ xs) x (inl e) h = rw (ap p (sym e) ∙ h) refl
  any_from p (y ∷ xs) x (inr m) h = step (p y) (any_from p xs x m h)
    where
      step : (b : Bool) → list_any p xs ≡ true → (b || list_any p xs) ≡ true
      step true h = refl
      step false h = h
  any_from p [] x m h = absurd m

module _ {T : Type 0} (times : Times T) (front : List T) (reduce : List ℤ → List Entry → List Entry) (content : List (Update T)) where
  -- where no time of a key is due, a visit leaves its history as it is
  module _ (hs : List (HistoryState T)) (v : Visit T) (is : IsVisit times front reduce content hs v) (none : is_due times front v.history ≡ false) where
    all_stay : (ts : List T) → list_any (λ t. not (is_beyond times front t)) ts ≡ false → filter (λ t. is_beyond times front t) ts ≡ ts
    all_stay [] h = refl
    all_stay (t ∷ ts) h =
        let p = or_parts (not (is_beyond times front t)) (list_any (λ t. not (is_beyond times front t)) ts) h in
        step (is_beyond times front t) p.0 (all_stay ts p.1)
      where
        step : (b : Bool) → not b ≡ false → filter (λ t. is_beyond times front t) ts ≡ ts → cond b (t ∷ filter (λ t. is_beyond times front t) ts) (filter (λ t. is_beyond times front t) ts) ≡ t ∷ ts
        step true e ih = ap (λ z. t ∷ z) ih
        step false e ih = absurd (true≢false e)

    rest_stays : v.rest ≡ v.history.due
    rest_stays = is.settled.rest_is ∙ (ap (filter (λ t. is_beyond times front t)) (take_whole v.history.due) ∙ all_stay v.history.due none)

    nothing_more : v.more ≡ []
    nothing_more = no_members v.more (λ u m.
        let a = is.settled.at u m in
        true≢false (sym (any_from (λ t. not (is_beyond times front t)) v.history.due u.time (subst (Member u.time) (take_whole v.history.due) a.1) (ap not a.2)) ∙ none))

    pub renewed_same : renewed v ≡ v.history
    renewed_same = ap (λ d. record v.history { due = d; given = v.history.given ++ v.more }) rest_stays
        ∙ (ap (λ m. record v.history { given = v.history.given ++ m }) nothing_more ∙ ap (λ z. record v.history { given = z }) (append-nil v.history.given))

  -- visits to other places are visits after one of them too
  pub visits_after : (hs : List (HistoryState T)) (v : Visit T) (vs : List (Visit T)) → (Member v.place (map (λ v. v.place) vs) → ⊥) → AreVisits times front reduce content hs vs → AreVisits times front reduce content (set hs v.place (renewed v)) vs
  visits_after hs v [] n a = tt
  visits_after hs v (w ∷ vs) n a = (
    record { there = set_other hs v.place w.place (renewed v) (λ e. n (inl e)) ∙ a.0.there; settled = a.0.settled },
    visits_after hs v vs (λ m. n (inr m)) a.1,
  )

  pub visit_in : (hs : List (HistoryState T)) (vs : List (Visit T)) → AreVisits times front reduce content hs vs → (v : Visit T) → Member v vs → IsVisit times front reduce content hs v
  visit_in hs (w ∷ vs) a v (inl e) = subst (IsVisit times front reduce content hs) (sym e) a.0
  visit_in hs (w ∷ vs) a v (inr m) = visit_in hs vs a.1 v m
  visit_in hs [] a v m = absurd m

  -- what is changed is what the visits renew
  pub changed_is_renewed : (vs : List (Visit T)) (hs : List (HistoryState T)) → AreOnce (map (λ v. v.place) vs) → AreVisits times front reduce content hs vs
      → all_changed (flat_map (changes_of times front) vs) (flat_map (λ v. v.more) vs) hs ≡ all_renewed vs hs
  changed_is_renewed [] hs o a = refl
  changed_is_renewed (v ∷ vs) hs o a = step (is_due times front v.history) refl (changed_is_renewed vs (set hs v.place (renewed v)) o.1 (visits_after hs v vs o.0 a.1))
    where
      changes : List (ChangeState T)
      changes = flat_map (changes_of times front) vs

      more : List (Update T)
      more = flat_map (λ v. v.more) vs

      step : (b : Bool) → is_due times front v.history ≡ b → all_changed changes more (set hs v.place (renewed v)) ≡ all_renewed vs (set hs v.place (renewed v))
          → all_changed (cond b (record { place = v.place; many = length v.more; rest = v.rest } ∷ []) [] ++ changes) (v.more ++ more) hs ≡ all_renewed vs (set hs v.place (renewed v))
      step true e ih =
          ap (λ z. all_changed changes z (changed_at v.place (λ h. due_left v.rest (given_more (take (length v.more) (v.more ++ more)) h)) hs)) (behind_front v.more more)
          ∙ (ap (λ z. all_changed changes more (changed_at v.place (λ h. due_left v.rest (given_more z h)) hs)) (front_of v.more more)
          ∙ (ap (all_changed changes more) (changed_is v.place (λ h. due_left v.rest (given_more v.more h)) hs v.history a.0.there) ∙ ih))
      step false e ih =
          ap (λ z. all_changed changes (z ++ more) hs) (nothing_more hs v a.0 e)
          ∙ (ap (all_changed changes more) (sym (ap (set hs v.place) (renewed_same hs v a.0 e) ∙ set_same hs v.place v.history a.0.there)) ∙ ih)

  -- the updates that are given are cut as the changes say
  pub changes_cut : (hs : List (HistoryState T)) (vs : List (Visit T)) → AreVisits times front reduce content hs vs → AreCut (flat_map (changes_of times front) vs) (flat_map (λ v. v.more) vs)
  changes_cut hs [] a = tt
  changes_cut hs (v ∷ vs) a = step (is_due times front v.history) refl (changes_cut hs vs a.1)
    where
      changes : List (ChangeState T)
      changes = flat_map (changes_of times front) vs

      more : List (Update T)
      more = flat_map (λ v. v.more) vs

      step : (b : Bool) → is_due times front v.history ≡ b → AreCut changes more → AreCut (cond b (record { place = v.place; many = length v.more; rest = v.rest } ∷ []) [] ++ changes) (v.more ++ more)
      step true e ih = ((let l = length-append v.more more in omega (arith, l)), subst (AreCut changes) (sym (behind_front v.more more)) ih)
      step false e ih = subst (λ z. AreCut changes (z ++ more)) (sym (nothing_more hs v a.0 e)) ih

  -- each change is at the place of a visit
  change_from : (vs : List (Visit T)) (c : ChangeState T) → Member c (flat_map (changes_of times front) vs) → (v : Visit T) × Member v vs × (v.place ≡ c.place)
  change_from [] c m = absurd m
  change_from (v ∷ vs) c m =
      ⊎_elim (λ a. (v, inl refl, own (is_due times front v.history) a)) (λ b. let r = change_from vs c b in (r.0, inr r.1, r.2)) (in_either c (changes_of times front v) (flat_map (changes_of times front) vs) m)
    where
      own : (b : Bool) → Member c (cond b (record { place = v.place; many = length v.more; rest = v.rest } ∷ []) []) → v.place ≡ c.place
      own true (inl e) = ap (λ (z : ChangeState T). z.place) (sym e)
      own true (inr m) = absurd m
      own false m = absurd m

  pub changes_within : (hs : List (HistoryState T)) (vs : List (Visit T)) → AreVisits times front reduce content hs vs → AreWithin (length hs) (flat_map (changes_of times front) vs)
  changes_within hs vs a c m =
      let r = change_from vs c m in
      let is = visit_in hs vs a r.0 r.1 in
      subst (λ i. i < length hs) r.2 (there_within hs r.0.place r.0.history is.there)
    where
      there_within : (hs : List (HistoryState T)) (i : ℕ) (h : HistoryState T) → slice_get hs i ≡ Some h → i < length hs
      there_within [] i h e = absurd (none-some h e)
      there_within (x ∷ hs) zero h e = omega arith
      there_within (x ∷ hs) (suc i) h e = let l = there_within hs i h e in omega (arith, l)

  -- no place is changed twice
  pub changes_once : (vs : List (Visit T)) → AreOnce (map (λ v. v.place) vs) → AreOnce (map (λ c. c.place) (flat_map (changes_of times front) vs))
  changes_once [] o = tt
  changes_once (v ∷ vs) o = step (is_due times front v.history) (changes_once vs o.1)
    where
      changes : List (ChangeState T)
      changes = flat_map (changes_of times front) vs

      elsewhere : Member v.place (map (λ c. c.place) (flat_map (changes_of times front) vs)) → ⊥
      elsewhere m =
          let at = image_of (λ (c : ChangeState T). c.place) v.place (flat_map (changes_of times front) vs) m in
          let r = change_from vs at.0 at.1 in
          o.0 (subst (λ p. Member p (map (λ v. v.place) vs)) (r.2 ∙ sym at.2) (image_in (λ (v : Visit T). v.place) r.0 vs r.1))

      step : (b : Bool) → AreOnce (map (λ c. c.place) changes) → AreOnce (map (λ c. c.place) (cond b (record { place = v.place; many = length v.more; rest = v.rest } ∷ []) [] ++ changes))
      step true ih = (elsewhere, ih)
      step false ih = ih

  -- ---- key by key

  -- of this key nothing changed and nothing was given
  pub record Unchanged (k : ℕ) (key : List ℤ) (vs : List (Visit T)) (hs after : List (HistoryState T)) : Type 0 where
    pub due : due_of key after ≡ due_of key hs
    pub joined : joined_of key after ≡ joined_of key hs
    pub given : given_of key after ≡ given_of key hs
    pub none : filter (of_key k key) (flat_map (λ v. v.more) vs) ≡ []
    pub others : (v : Visit T) → Member v vs → v.history.key ≡ key → ⊥

  -- there was a visit to the key
  pub record Changed (k : ℕ) (key : List ℤ) (vs : List (Visit T)) (hs after : List (HistoryState T)) : Type 0 where
    pub visit : Visit T
    pub here : Member visit vs
    pub key_is : visit.history.key ≡ key
    pub old_due : due_of key hs ≡ visit.history.due
    pub old_times : joined_of key hs ≡ visit.history.times
    pub old_given : given_of key hs ≡ visit.history.given
    pub due : due_of key after ≡ visit.rest
    pub joined : joined_of key after ≡ visit.history.times
    pub given : given_of key after ≡ visit.history.given ++ visit.more
    pub out : filter (of_key k key) (flat_map (λ v. v.more) vs) ≡ visit.more

  none_of_key : (k : ℕ) (key other : List ℤ) → same_row other key ≡ false → (us : List (Update T)) → ((u : Update T) → Member u us → of_key k other u ≡ true) → filter (of_key k key) us ≡ []
  none_of_key k key other n [] h = refl
  none_of_key k key other n (u ∷ us) h = step (of_key k key u) refl (none_of_key k key other n us (λ x m. h x (inr m)))
    where
      step : (b : Bool) → of_key k key u ≡ b → filter (of_key k key) us ≡ [] → cond b (u ∷ filter (of_key k key) us) (filter (of_key k key) us) ≡ []
      step false e ih = ih
      step true e ih = absurd (true≢false (sym (ap (λ z. same_row z key) (sym (row_same (take k u.row) other (h u (inl refl)))) ∙ e) ∙ n))

  all_of_key : (k : ℕ) (key : List ℤ) (us : List (Update T)) → ((u : Update T) → Member u us → of_key k key u ≡ true) → filter (of_key k key) us ≡ us
  all_of_key k key [] h = refl
  all_of_key k key (u ∷ us) h = rw (h u (inl refl)) (ap (λ z. u ∷ z) (all_of_key k key us (λ x m. h x (inr m))))

  -- two places of one key are one place
  key_at : (key : List ℤ) (hs : List (HistoryState T)) (i : ℕ) (h : HistoryState T) → slice_get hs i ≡ Some h → h.key ≡ key → list_any (λ g. same_row key g.key) hs ≡ true
  key_at key [] i h e d = absurd (none-some h e)
  key_at key (x ∷ hs) zero h e d = rw (ap (λ (z : HistoryState T). same_row key z.key) (same_Some x h e) ∙ (ap (same_row key) d ∙ row_itself key)) refl
  key_at key (x ∷ hs) (suc i) h e d = step (same_row key x.key) (key_at key hs i h e d)
    where
      step : (b : Bool) → list_any (λ g. same_row key g.key) hs ≡ true → (b || list_any (λ g. same_row key g.key) hs) ≡ true
      step true r = refl
      step false r = r

  one_place : (hs : List (HistoryState T)) → AreKeysApart hs → (i j : ℕ) (a b : HistoryState T) → slice_get hs i ≡ Some a → slice_get hs j ≡ Some b → a.key ≡ b.key → i ≡ j
  one_place [] apart i j a b e f k = absurd (none-some a e)
  one_place (x ∷ hs) apart zero zero a b e f k = refl
  one_place (x ∷ hs) apart zero (suc j) a b e f k =
      absurd (true≢false (sym (key_at x.key hs j b f (sym k ∙ ap (λ (z : HistoryState T). z.key) (sym (same_Some x a e)))) ∙ apart.0))
  one_place (x ∷ hs) apart (suc i) zero a b e f k =
      absurd (true≢false (sym (key_at x.key hs i a e (k ∙ ap (λ (z : HistoryState T). z.key) (sym (same_Some x b f)))) ∙ apart.0))
  one_place (x ∷ hs) apart (suc i) (suc j) a b e f k = ap suc (one_place hs apart.1 i j a b e f k)

  pub own_more : (k : ℕ) (cmp : T → T → Ordering) (hs : List (HistoryState T)) → AreHistories cmp k hs → (v : Visit T) → IsVisit times front reduce content hs v → (length v.history.key ≡ k) × ((u : Update T) → Member u v.more → of_key k v.history.key u ≡ true)
  own_more k cmp hs a v is =
      let w = (history_there hs v.place v.history is.there a).width in
      (w, λ u m. subst (λ n. of_key n v.history.key u ≡ true) w (is.settled.at u m).0)
    where
      history_there : (hs : List (HistoryState T)) (i : ℕ) (h : HistoryState T) → slice_get hs i ≡ Some h → AreHistories cmp k hs → IsHistory cmp k h
      history_there [] i h e a = absurd (none-some h e)
      history_there (x ∷ hs) zero h e a = subst (IsHistory cmp k) (same_Some x h e) a.0
      history_there (x ∷ hs) (suc i) h e a = history_there hs i h e a.1

  -- the keys of these visits are of k columns, and what is given at them is of their keys
  abbrev pub OwnMore : ℕ → List (Visit T) → Type 0
  OwnMore k vs = (v : Visit T) → Member v vs → (u : Update T) → Member u v.more → of_key k v.history.key u ≡ true

  pub outcome : (k : ℕ) (key : List ℤ) (vs : List (Visit T)) (hs : List (HistoryState T)) → AreKeysApart hs → AreOnce (map (λ v. v.place) vs) → AreVisits times front reduce content hs vs → OwnMore k vs
      → Unchanged k key vs hs (all_renewed vs hs) ⊎ Changed k key vs hs (all_renewed vs hs)
  outcome k key [] hs apart o a own = inl (record { due = refl; joined = refl; given = refl; none = refl; others = λ v m. absurd m })
  outcome k key (v ∷ vs) hs apart o a own =
      step (same_row v.history.key key) refl (outcome k key vs next (apart_replaced hs v.place v.history (renewed v) apart a.0.there refl) o.1 after (λ w m. own w (inr m)))
    where
      next : List (HistoryState T)
      next = set hs v.place (renewed v)

      after : AreVisits times front reduce content (set hs v.place (renewed v)) vs
      after = visits_after hs v vs o.0 a.1

      more : List (Update T)
      more = flat_map (λ v. v.more) vs

      split : filter (of_key k key) (v.more ++ flat_map (λ v. v.more) vs) ≡ filter (of_key k key) v.more ++ filter (of_key k key) (flat_map (λ v. v.more) vs)
      split = filter-append (of_key k key) v.more (flat_map (λ v. v.more) vs)

      step : (b : Bool) → same_row v.history.key key ≡ b → Unchanged k key vs (set hs v.place (renewed v)) (all_renewed vs (set hs v.place (renewed v))) ⊎ Changed k key vs (set hs v.place (renewed v)) (all_renewed vs (set hs v.place (renewed v)))
          → Unchanged k key (v ∷ vs) hs (all_renewed vs (set hs v.place (renewed v))) ⊎ Changed k key (v ∷ vs) hs (all_renewed vs (set hs v.place (renewed v)))
      step true e (inl u) =
          let is : v.history.key ≡ key = row_same v.history.key key e in
          inr (record {
            visit = v;
            here = inl refl;
            key_is = is;
            old_due = there (λ h. h.due) is;
            old_times = there (λ h. h.times) is;
            old_given = there (λ h. h.given) is;
            due = u.due ∙ now (λ h. h.due) e;
            joined = u.joined ∙ now (λ h. h.times) e;
            given = u.given ∙ now (λ h. h.given) e;
            out = split ∙ (ap (λ z. filter (of_key k key) v.more ++ z) u.none ∙ (append-nil (filter (of_key k key) v.more) ∙ all_of_key k key v.more (λ x m. subst (λ z. of_key k z x ≡ true) is (own v (inl refl) x m))));
          })
        where
          there : {X : Type 0} (f : HistoryState T → List X) → v.history.key ≡ key → of_history f key hs ≡ f v.history
          there f is = subst (λ z. of_history f z hs ≡ f v.history) is (of_there f hs v.place v.history apart a.0.there)

          now : {X : Type 0} (f : HistoryState T → List X) → same_row v.history.key key ≡ true → of_history f key (set hs v.place (renewed v)) ≡ f (renewed v)
          now f e = of_replaced f key hs v.place v.history (renewed v) apart a.0.there refl ∙ ap (λ b. cond b (f (renewed v)) (of_history f key hs)) e
      step true e (inr c) =
          let is : v.history.key ≡ key = row_same v.history.key key e in
          let w = visit_in (set hs v.place (renewed v)) vs after c.visit c.here in
          let old : slice_get hs c.visit.place ≡ Some c.visit.history = (visit_in hs vs a.1 c.visit c.here).there in
          let same : v.place ≡ c.visit.place = one_place hs apart v.place c.visit.place v.history c.visit.history a.0.there old (is ∙ sym c.key_is) in
          absurd (o.0 (subst (λ z. Member z (map (λ v. v.place) vs)) (sym same) (image_in (λ (v : Visit T). v.place) c.visit vs c.here)))
      step false e (inl u) = inl (record {
        due = u.due ∙ still (λ h. h.due) e;
        joined = u.joined ∙ still (λ h. h.times) e;
        given = u.given ∙ still (λ h. h.given) e;
        none = split ∙ (ap (λ z. z ++ filter (of_key k key) (flat_map (λ v. v.more) vs)) (none_of_key k key v.history.key e v.more (own v (inl refl))) ∙ u.none);
        others = λ w m d. ⊎_elim (λ f. true≢false (sym (ap (λ z. same_row z key) (ap (λ (z : Visit T). z.history.key) (sym f) ∙ d) ∙ row_itself key) ∙ e)) (λ n. u.others w n d) m;
      })
        where
          still : {X : Type 0} (f : HistoryState T → List X) → same_row v.history.key key ≡ false → of_history f key (set hs v.place (renewed v)) ≡ of_history f key hs
          still f e = of_replaced f key hs v.place v.history (renewed v) apart a.0.there refl ∙ ap (λ b. cond b (f (renewed v)) (of_history f key hs)) e
      step false e (inr c) = inr (record {
        visit = c.visit;
        here = inr c.here;
        key_is = c.key_is;
        old_due = sym (still (λ h. h.due) e) ∙ c.old_due;
        old_times = sym (still (λ h. h.times) e) ∙ c.old_times;
        old_given = sym (still (λ h. h.given) e) ∙ c.old_given;
        due = c.due;
        joined = c.joined;
        given = c.given;
        out = split ∙ (ap (λ z. z ++ filter (of_key k key) (flat_map (λ v. v.more) vs)) (none_of_key k key v.history.key e v.more (own v (inl refl))) ∙ c.out);
      })
        where
          still : {X : Type 0} (f : HistoryState T → List X) → same_row v.history.key key ≡ false → of_history f key (set hs v.place (renewed v)) ≡ of_history f key hs
          still f e = of_replaced f key hs v.place v.history (renewed v) apart a.0.there refl ∙ ap (λ b. cond b (f (renewed v)) (of_history f key hs)) e

  -- ---- all that was given at the visits

  pub from_visit : (vs : List (Visit T)) (u : Update T) → Member u (flat_map (λ v. v.more) vs) → (v : Visit T) × Member v vs × Member u v.more
  from_visit [] u m = absurd m
  from_visit (v ∷ vs) u m =
      ⊎_elim (λ a. (v, inl refl, a)) (λ b. let r = from_visit vs u b in (r.0, inr r.1, r.2)) (in_either u v.more (flat_map (λ v. v.more) vs) m)

  -- no row is given twice at one time
  pub all_apart : (o : PartialOrderLaws times) (k : ℕ) (hs : List (HistoryState T)) → AreKeysApart hs → (vs : List (Visit T)) → AreOnce (map (λ v. v.place) vs) → AreVisits times front reduce content hs vs → OwnMore k vs → AreApart times (flat_map (λ v. v.more) vs)
  all_apart o k hs apart [] once a own = tt
  all_apart o k hs apart (v ∷ vs) once a own =
      apart_both o v.more (flat_map (λ v. v.more) vs) a.0.settled.apart (all_apart o k hs apart vs once.1 a.1 (λ w m. own w (inr m))) (λ x y m n. step x y m n (is_doubled times x y) refl)
    where
      step : (x y : Update T) → Member x v.more → Member y (flat_map (λ v. v.more) vs) → (b : Bool) → is_doubled times x y ≡ b → is_doubled times x y ≡ false
      step x y m n false e = e
      step x y m n true e =
          let w = from_visit vs y n in
          let rows = (doubled_is o x y e).0 in
          let same : v.history.key ≡ w.0.history.key = sym (row_same (take k x.row) v.history.key (own v (inl refl) x m)) ∙ (ap (take k) rows ∙ row_same (take k y.row) w.0.history.key (own w.0 (inr w.1) y w.2)) in
          let place : v.place ≡ w.0.place = one_place hs apart v.place w.0.place v.history w.0.history a.0.there (visit_in hs vs a.1 w.0 w.1).there same in
          absurd (once.0 (subst (λ z. Member z (map (λ v. v.place) vs)) (sym place) (image_in (λ (v : Visit T). v.place) w.0 vs w.1)))
