-- An insertion keeps an antichain in order, and makes the times at or after the new time open.
use Rattle.std.proofs.Common.{◌≡◌, ◌≢◌, Bool, true, false, cond, not, ◌&&◌, ◌||◌, List, [], ◌∷◌, IsTrue, length, refl, sym, ◌∙◌, ap, inl, inr, ⊎_elim, arith}
use Rattle.std.proofs.lemmas.Bool.{or_cases, or_left, or_right, and_parts, and_from, true≢false}
use Rattle.std.specs.List.{filter, list_any, list_all, AllByRecursion}
use Rattle.std.specs.List.Sorted.{IsStrictlySortedBy}
use Rattle.std.specs.Ordering.{is_lt, ordering_reverse}
use Rattle.std.specs.Cmp.{IsTotalOrder}
use Rattle.std.specs.declared.cmp.Ordering.{Ordering}
use Rattle.std.specs.declared.cmp.Ordering.TheVariants.{Less, Equal, Greater}
use Rattle.lattice.specs.Times.{Times}
use Rattle.lattice.specs.Order.{PartialOrderLaws, ExtendsLaws}
use Rattle.lattice.specs.Frontiers.{is_beyond}
use Rattle.lattice.proofs.BoundLemmas.{same_test}
use Rattle.lattice.proofs.FrontierLemmas.{beyond_up}
use Rattle.antichain.specs.Antichains.{is_incomparable, is_antichain, least, SameElements, IsFrontier}
use Rattle.antichain.specs.Insertion.{insertion, not_above}
use Rattle.antichain.proofs.Lists.{Among, among_contains, contains_among, all_from, all_filter, filter_has, filter_takes}
use Rattle.antichain.proofs.AntichainLemmas.{beyond_has, has_beyond, not_from, frontier_least}

or_swap : (a b c : Bool) → (a || (b || c)) ≡ (b || (a || c))
or_swap true true c = refl
or_swap true false c = refl
or_swap false b c = refl

or_turn : (a b c : Bool) → ((a || b) || c) ≡ (b || (a || c))
or_turn true true c = refl
or_turn true false c = refl
or_turn false b c = refl

joins_turn : (f g b c : Bool) → (((f && g) || b) || (f && c)) ≡ (b || (f && (g || c)))
joins_turn true g b c = or_turn g b c
joins_turn false g b c = refl

joined_turn : (f b c d : Bool) → ((b || (f && d)) || (c && d)) ≡ (b || ((f || c) && d))
joined_turn f true c d = refl
joined_turn true false true true = refl
joined_turn true false true false = refl
joined_turn true false false true = refl
joined_turn true false false false = refl
joined_turn false false c d = refl

false_from : (b : Bool) → (IsTrue b → ⊥) → b ≡ false
false_from true h = absurd (h refl)
false_from false h = refl

-- cases on the three answers of a comparison
by_answer : (G : Type 0) (a : Ordering) → (a ≡ Less → G) → (a ≡ Equal → G) → (a ≡ Greater → G) → G
by_answer G Less l e g = l refl
by_answer G Equal l e g = e refl
by_answer G Greater l e g = g refl

less_is : (a : Ordering) → is_lt a ≡ true → a ≡ Less
less_is Less e = refl
less_is Equal e = absurd (true≢false (sym e))
less_is Greater e = absurd (true≢false (sym e))

module _ {T : Type 0} (cmp : T → T → Ordering) where
  -- if the new element and the old ones pass a test, then all elements pass it after the insertion
  all_placed : (P : T → Type 0) (t : T) (xs : List T) → P t → AllByRecursion P xs → AllByRecursion P (insertion cmp t xs)
  all_placed P t [] p a = (p, tt)
  all_placed P t (x ∷ xs) p a =
      elim (is_lt (cmp t x)) as (λ b. AllByRecursion P (cond b (t ∷ (x ∷ xs)) (x ∷ insertion cmp t xs))) [
        | true ↦ (p, a)
        | false ↦ (a.0, all_placed P t xs p a.1)
      ]

  all_test_placed : (p : T → Bool) (t : T) (xs : List T) → IsTrue (p t) → IsTrue (list_all p xs) → IsTrue (list_all p (insertion cmp t xs))
  all_test_placed p t [] h a = and_from _ _ h refl
  all_test_placed p t (x ∷ xs) h a =
      let parts = and_parts _ _ a in
      elim (is_lt (cmp t x)) as (λ b. IsTrue (list_all p (cond b (t ∷ (x ∷ xs)) (x ∷ insertion cmp t xs)))) [
        | true ↦ and_from _ _ h a
        | false ↦ and_from _ _ parts.0 (all_test_placed p t xs h parts.1)
      ]

  any_placed : (p : T → Bool) (t : T) (xs : List T) → list_any p (insertion cmp t xs) ≡ (p t || list_any p xs)
  any_placed p t [] = refl
  any_placed p t (x ∷ xs) =
      elim (is_lt (cmp t x)) as (λ b. list_any p (cond b (t ∷ (x ∷ xs)) (x ∷ insertion cmp t xs)) ≡ (p t || (p x || list_any p xs))) [
        | true ↦ refl
        | false ↦ ap (λ b. p x || b) (any_placed p t xs) ∙ or_swap (p x) (p t) (list_any p xs)
      ]

  -- an insertion makes the list longer by one
  pub length_placed : (t : T) (xs : List T) → length (insertion cmp t xs) ≡ length (t ∷ xs)
  length_placed t [] = refl
  length_placed t (x ∷ xs) =
      elim (is_lt (cmp t x)) as (λ b. length (cond b (t ∷ (x ∷ xs)) (x ∷ insertion cmp t xs)) ≡ length (t ∷ (x ∷ xs))) [
        | true ↦ refl
        | false ↦ let h = length_placed t xs in omega (arith, h)
      ]

  -- a sorted list stays sorted if the new element is none of the old ones
  sorted_placed : IsTotalOrder cmp → (t : T) (xs : List T) → ((x : T) → Among x xs → cmp t x ≢ Equal) → IsStrictlySortedBy cmp xs → IsStrictlySortedBy cmp (insertion cmp t xs)
  unfolding IsStrictlySortedBy
  sorted_placed o t [] other s = (tt, tt)
  sorted_placed o t (x ∷ xs) other s =
      elim (is_lt (cmp t x)) as (λ b. is_lt (cmp t x) ≡ b → IsStrictlySortedBy cmp (cond b (t ∷ (x ∷ xs)) (x ∷ insertion cmp t xs))) [
        | true ↦ λ e. ((less_is _ e, all_after t x xs (less_is _ e) s.0), s)
        | false ↦ λ e. (all_placed (λ y. cmp x y ≡ Less) t xs (turned e) s.0, sorted_placed o t xs (λ y m. other y (inr m)) s.1)
      ] refl
    where
      all_after : (t x : T) (ys : List T) → cmp t x ≡ Less → AllByRecursion (λ y. cmp x y ≡ Less) ys → AllByRecursion (λ y. cmp t y ≡ Less) ys
      all_after t x [] l a = tt
      all_after t x (y ∷ ys) l a = (o.trans t x y l a.0, all_after t x ys l a.1)

      turned : is_lt (cmp t x) ≡ false → cmp x t ≡ Less
      turned e =
          by_answer (cmp x t ≡ Less) (cmp t x)
          (λ l. absurd (true≢false (sym (ap is_lt l) ∙ e)))
          (λ k. absurd (other x (inl refl) k))
          (λ k. o.antisymm x t ∙ ap ordering_reverse k)

  sorted_filter : (p : T → Bool) (xs : List T) → IsStrictlySortedBy cmp xs → IsStrictlySortedBy cmp (filter p xs)
  unfolding IsStrictlySortedBy
  sorted_filter p [] s = tt
  sorted_filter p (x ∷ xs) s =
      elim (p x) as (λ b. IsStrictlySortedBy cmp (cond b (x ∷ filter p xs) (filter p xs))) [
        | true ↦ (kept (λ y. cmp x y ≡ Less) xs s.0, sorted_filter p xs s.1)
        | false ↦ sorted_filter p xs s.1
      ]
    where
      kept : (P : T → Type 0) (ys : List T) → AllByRecursion P ys → AllByRecursion P (filter p ys)
      kept P [] a = tt
      kept P (y ∷ ys) a =
          elim (p y) as (λ b. AllByRecursion P (cond b (y ∷ filter p ys) (filter p ys))) [
            | true ↦ (a.0, kept P ys a.1)
            | false ↦ kept P ys a.1
          ]

module _ {T : Type 0} (times : Times T) where
  antichain_filter : (p : T → Bool) (xs : List T) → IsTrue (is_antichain times xs) → IsTrue (is_antichain times (filter p xs))
  antichain_filter p [] a = refl
  antichain_filter p (x ∷ xs) a =
      let parts = and_parts _ _ a in
      elim (p x) as (λ b. IsTrue (is_antichain times (cond b (x ∷ filter p xs) (filter p xs)))) [
        | true ↦ and_from _ _ (all_filter (is_incomparable times x) p xs parts.0) (antichain_filter p xs parts.1)
        | false ↦ antichain_filter p xs parts.1
      ]

  incomparable_back : (s t : T) → IsTrue (is_incomparable times s t) → IsTrue (is_incomparable times t s)
  incomparable_back s t h =
      let p = and_parts (not (times.below s t)) (not (times.below t s)) h in
      and_from (not (times.below t s)) (not (times.below s t)) p.1 p.0

  antichain_placed : (cmp : T → T → Ordering) (t : T) (xs : List T) → IsTrue (list_all (is_incomparable times t) xs) → IsTrue (is_antichain times xs) → IsTrue (is_antichain times (insertion cmp t xs))
  antichain_placed cmp t [] h a = refl
  antichain_placed cmp t (x ∷ xs) h a =
      let apart = and_parts _ _ h in
      let parts = and_parts _ _ a in
      elim (is_lt (cmp t x)) as (λ b. IsTrue (is_antichain times (cond b (t ∷ (x ∷ xs)) (x ∷ insertion cmp t xs)))) [
        | true ↦ and_from _ _ h a
        | false ↦ and_from _ _ (all_test_placed cmp (is_incomparable times x) t xs (incomparable_back t x apart.0) parts.0) (antichain_placed cmp t xs apart.1 parts.1)
      ]

  -- a time that is not beyond the frontier cannot be compared with the elements that it is not at
  -- or before
  pub apart_from_rest : (t : T) (xs : List T) → is_beyond times xs t ≡ false → IsTrue (list_all (is_incomparable times t) (not_above times t xs))
  apart_from_rest t xs h =
      all_from (is_incomparable times t) (not_above times t xs)
      (λ x m.
      let k = filter_has (λ y. not (times.below t y)) xs x m in
      and_from _ _ k.1 (not_from (times.below x t) (λ b. true≢false (sym (has_beyond times xs x t k.0 b) ∙ h))))

module _ {T : Type 0} {times : Times T} (order : PartialOrderLaws times) where
  -- the elements that an insertion removes are beyond the new time
  beyond_rest : (t s : T) (xs : List T) → (times.below t s || is_beyond times (not_above times t xs) s) ≡ (times.below t s || is_beyond times xs s)
  beyond_rest t s xs =
      same_test (times.below t s || is_beyond times (not_above times t xs) s) (times.below t s || is_beyond times xs s)
      (λ h. ⊎_elim (λ k. or_left _ _ k) (λ k. or_right (times.below t s) _ (more k)) (or_cases _ _ h))
      (λ h. ⊎_elim (λ k. or_left _ _ k) fewer (or_cases _ _ h))
    where
      more : IsTrue (is_beyond times (not_above times t xs) s) → IsTrue (is_beyond times xs s)
      more k =
          let r = beyond_has times (not_above times t xs) s k in
          has_beyond times xs r.0 s (filter_has (λ y. not (times.below t y)) xs r.0 r.1).0 r.2

      fewer : IsTrue (is_beyond times xs s) → IsTrue (times.below t s || is_beyond times (not_above times t xs) s)
      fewer k =
          let r = beyond_has times xs s k in
          elim (times.below t r.0) as (λ b. times.below t r.0 ≡ b → IsTrue (times.below t s || is_beyond times (not_above times t xs) s)) [
            | true ↦ λ e. or_left _ _ (order.transitive _ _ _ e r.2)
            | false ↦ λ e. or_right (times.below t s) _ (has_beyond times (not_above times t xs) r.0 s (filter_takes (λ y. not (times.below t y)) xs r.0 r.1 (ap not e)) r.2)
          ] refl

  -- the times beyond the frontier after an insertion
  pub beyond_inserted : (cmp : T → T → Ordering) (t s : T) (xs : List T) → is_beyond times (insertion cmp t (not_above times t xs)) s ≡ (times.below t s || is_beyond times xs s)
  beyond_inserted cmp t s xs = any_placed cmp (λ f. times.below f s) t (not_above times t xs) ∙ beyond_rest t s xs

  -- inserting a time that is beyond the frontier opens no times
  pub beyond_already : (t s : T) (xs : List T) → is_beyond times xs t ≡ true → is_beyond times xs s ≡ (times.below t s || is_beyond times xs s)
  beyond_already t s xs h =
      same_test _ _
      (λ k. or_right (times.below t s) _ k)
      (λ k. ⊎_elim (λ b. beyond_up order xs t s h b) (λ b. b) (or_cases _ _ k))

  -- inserting a time that is not beyond a frontier gives a frontier
  pub frontier_inserted : {cmp : T → T → Ordering} → IsTotalOrder cmp → ExtendsLaws times cmp → (t : T) (xs : List T) → is_beyond times xs t ≡ false → IsFrontier times cmp xs → IsFrontier times cmp (insertion cmp t (not_above times t xs))
  frontier_inserted {cmp} total extends t xs h f = record {
    antichain = antichain_placed times cmp t (not_above times t xs) (apart_from_rest times t xs h) (antichain_filter times (λ y. not (times.below t y)) xs f.antichain);
    ascending = sorted_placed cmp total t (not_above times t xs)
        (λ x m e.
        let there = (filter_has (λ y. not (times.below t y)) xs x m).0 in
        let same : t ≡ x = extends.exact t x e in
        true≢false (sym (has_beyond times xs x t there (ap (times.below x) same ∙ order.reflexive x)) ∙ h))
        (sorted_filter cmp (λ y. not (times.below t y)) xs f.ascending);
  }

  -- after an insertion the elements are the least of the old elements and the time
  pub least_inserted : {cmp : T → T → Ordering} → IsTotalOrder cmp → ExtendsLaws times cmp → (t : T) (xs : List T) → is_beyond times xs t ≡ false → IsFrontier times cmp xs → SameElements (insertion cmp t (not_above times t xs)) (least times (t ∷ xs))
  least_inserted {cmp} total extends t xs h f =
      frontier_least times order (insertion cmp t (not_above times t xs)) (t ∷ xs)
      (frontier_inserted total extends t xs h f).antichain
      (λ s. beyond_inserted cmp t s xs)

  -- a time that is already beyond the frontier changes nothing in the least elements
  pub least_already : {cmp : T → T → Ordering} (t : T) (xs : List T) → is_beyond times xs t ≡ true → IsFrontier times cmp xs → SameElements xs (least times (t ∷ xs))
  least_already t xs h f = frontier_least times order xs (t ∷ xs) f.antichain (λ s. beyond_already t s xs h)

  -- for any times there is an antichain that has the same times beyond it
  antichain_of : (elements : List T) → (F : List T) × IsTrue (is_antichain times F) × ((s : T) → is_beyond times F s ≡ is_beyond times elements s)
  antichain_of [] = ([], refl, λ s. refl)
  antichain_of (t ∷ ts) =
      let r = antichain_of ts in
      elim (is_beyond times r.0 t) as (λ b. is_beyond times r.0 t ≡ b → (F : List T) × IsTrue (is_antichain times F) × ((s : T) → is_beyond times F s ≡ (times.below t s || is_beyond times ts s))) [
        | true ↦ λ e. (r.0, r.1, λ s. beyond_already t s r.0 e ∙ ap (λ b. times.below t s || b) (r.2 s))
        | false ↦ λ e. (
          t ∷ not_above times t r.0,
          and_from _ _ (apart_from_rest times t r.0 e) (antichain_filter times (λ y. not (times.below t y)) r.0 r.1),
          λ s. beyond_rest t s r.0 ∙ ap (λ b. times.below t s || b) (r.2 s),
        )
      ] refl

  -- the least of some times have the same times beyond them as all of them
  pub least_beyond : (elements : List T) (s : T) → is_beyond times (least times elements) s ≡ is_beyond times elements s
  least_beyond elements s =
      let r = antichain_of elements in
      let same = frontier_least times order r.0 elements r.1 r.2 in
      same_test _ _
      (λ h.
      let l = beyond_has times (least times elements) s h in
      sym (r.2 s) ∙ has_beyond times r.0 l.0 s (among_contains l.0 r.0 (same.back l.0 (contains_among l.0 (least times elements) l.1))) l.2)
      (λ h.
      let f = beyond_has times r.0 s (r.2 s ∙ h) in
      has_beyond times (least times elements) f.0 s (among_contains f.0 (least times elements) (same.into f.0 (contains_among f.0 r.0 f.1))) f.2)

  -- a step of the loop in `least_of`: one more of the times goes into the frontier
  pub beyond_step : (F G rest all : List T) (t s : T) → is_beyond times G s ≡ (times.below t s || is_beyond times F s) → (is_beyond times F s || is_beyond times (t ∷ rest) s) ≡ is_beyond times all s → (is_beyond times G s || is_beyond times rest s) ≡ is_beyond times all s
  beyond_step F G rest all t s e h =
      ap (λ b. b || is_beyond times rest s) e ∙ or_turn (times.below t s) (is_beyond times F s) (is_beyond times rest s) ∙ h

  -- a step of the loop in `insert_joins`: one more of the joins with f goes into the frontier
  pub joins_step : (F G rest : List T) (f g fg s : T) (all : Bool) → times.below fg s ≡ (times.below f s && times.below g s) → is_beyond times G s ≡ (times.below fg s || is_beyond times F s) → (is_beyond times F s || (times.below f s && is_beyond times (g ∷ rest) s)) ≡ all → (is_beyond times G s || (times.below f s && is_beyond times rest s)) ≡ all
  joins_step F G rest f g fg s all j e h =
      ap (λ b. b || (times.below f s && is_beyond times rest s)) (e ∙ ap (λ b. b || is_beyond times F s) j)
      ∙ joins_turn (times.below f s) (times.below g s) (is_beyond times F s) (is_beyond times rest s) ∙ h

  -- a step of the loop in `joined`: the joins of f with all elements of the other antichain have
  -- gone in
  pub joined_step : (F G rest others : List T) (f s : T) (all : Bool) → is_beyond times G s ≡ (is_beyond times F s || (times.below f s && is_beyond times others s)) → (is_beyond times F s || (is_beyond times (f ∷ rest) s && is_beyond times others s)) ≡ all → (is_beyond times G s || (is_beyond times rest s && is_beyond times others s)) ≡ all
  joined_step F G rest others f s all e h =
      ap (λ b. b || (is_beyond times rest s && is_beyond times others s)) e
      ∙ joined_turn (times.below f s) (is_beyond times F s) (is_beyond times rest s) (is_beyond times others s) ∙ h
