-- Frontiers of counted items: what keeps a time from being passed, and what leaves passed what was
-- passed. All of it holds of any choice of places, so of each kind of frontier.
use Rattle.std.proofs.Common.{◌≡◌, ℕ, zero, suc, ◌<◌, Bool, true, false, cond, not, ◌||◌, List, [], ◌∷◌, length, IsTrue, refl, ap, sym, ◌∙◌, arith, inl, inr, ⊎_elim}
use Rattle.std.specs.Prelude.{Contains, slice_index_or}
use Rattle.std.specs.List.{list_any}
use Rattle.std.proofs.lemmas.Bool.{or_left, or_right, or_cases, false≢true}
use Rattle.lattice.specs.Times.{Times}
use Rattle.lattice.specs.Order.{PartialOrderLaws}
use Rattle.lattice.specs.Frontiers.{is_beyond}
use Rattle.lattice.proofs.FrontierLemmas.{beyond_up}
use Rattle.antichain.specs.Antichains.{is_least, least, SameElements}
use Rattle.antichain.proofs.AntichainLemmas.{beyond_has, has_beyond, among_same, not_true, not_from}
use Rattle.antichain.proofs.InsertionLemmas.{least_beyond}
use Rattle.antichain.proofs.Lists.{Among, among_contains, contains_among, all_at, all_from, filter_has, filter_takes}
use Rattle.progress.specs.declared.place.Place.{Place}
use Rattle.progress.specs.declared.counted.Counted.{Counted}
use Rattle.progress.specs.Tallies.{SameCounts, times_where, StaysPassed, IsDowngrade}
use Rattle.progress.proofs.CountLemmas.{any_where, counts_tell}

module _ {T : Type 0} (times : Times T) (o : PartialOrderLaws times) where
  least_into : (S R : List T) → ((t : T) → is_beyond times S t ≡ is_beyond times R t) → (t : T) → Among t (least times S) → Among t (least times R)
  unfolding least
  least_into S R same t m =
      let k = filter_has (is_least times S) S t m in
      let r = beyond_has times R t (sym (same t) ∙ has_beyond times S t t k.0 (o.reflexive t)) in
      let s = beyond_has times S r.0 (same r.0 ∙ has_beyond times R r.0 r.0 r.1 (o.reflexive r.0)) in
      let up = implied (times.below s.0 t) (times.below t s.0) (all_at (λ s. not (times.below s t) || times.below t s) S s.0 k.1 s.1) (o.transitive s.0 r.0 t s.2 r.2) in
      let e : r.0 ≡ t = o.antisymmetric r.0 t r.2 (o.transitive t s.0 r.0 up s.2) in
      filter_takes (is_least times R) R t (among_same r.0 t R e r.1)
      (all_from (λ s. not (times.below s t) || times.below t s) R (λ x n. implies (times.below x t) (times.below t x) (λ h.
      let y = beyond_has times S x (same x ∙ has_beyond times R x x n (o.reflexive x)) in
      let up = implied (times.below y.0 t) (times.below t y.0) (all_at (λ s. not (times.below s t) || times.below t s) S y.0 k.1 y.1) (o.transitive y.0 x t y.2 h) in
      o.transitive t y.0 x up y.2)))
    where
      implied : (b c : Bool) → (not b || c) ≡ true → b ≡ true → c ≡ true
      implied true c h e = h
      implied false c h e = absurd (false≢true e)

      implies : (b c : Bool) → (b ≡ true → c ≡ true) → (not b || c) ≡ true
      implies true c h = h refl
      implies false c h = refl

  -- least elements depend only on which times are beyond the list
  pub same_least : (S R : List T) → ((t : T) → is_beyond times S t ≡ is_beyond times R t) → SameElements (least times S) (least times R)
  same_least S R same = record {
    into = λ t c. contains_among t (least times R) (least_into S R same t (among_contains t (least times S) c));
    back = λ t c. contains_among t (least times S) (least_into R S (λ s. sym (same s)) t (among_contains t (least times R) c));
  }

  -- equal counts have equal frontiers
  pub least_counted : (test : Place → Bool) (xs ys : List (Counted T)) → SameCounts xs ys → SameElements (least times (times_where test xs)) (least times (times_where test ys))
  least_counted test xs ys same = same_least (times_where test xs) (times_where test ys) (counts_tell times test xs ys same)

  passes : (test : Place → Bool) (x : Counted T) (t : T) → IsTrue (test x.place) → IsTrue (times.below x.time t) → cond (test x.place) (times.below x.time t) false ≡ true
  passes test x t p q = ap (λ b. cond b (times.below x.time t) false) p ∙ q

  any_at : (p : Counted T → Bool) (xs : List (Counted T)) (x : Counted T) (k : ℕ) → k < length xs → slice_index_or xs k x ≡ x → p x ≡ true → list_any p xs ≡ true
  any_at p [] x k l e q = absurd (omega (arith, l))
  any_at p (y ∷ ys) x zero l e q = or_left (p y) _ (ap p e ∙ q)
  any_at p (y ∷ ys) x (suc k) l e q = or_right (p y) _ (any_at p ys x k (omega (arith, l)) e q)

  -- an item that counts, at or before a time, keeps the frontier from passing the time
  pub counted_beyond : (test : Place → Bool) (xs : List (Counted T)) (x : Counted T) (t : T) → Contains xs x → IsTrue (test x.place) → IsTrue (times.below x.time t) → is_beyond times (least times (times_where test xs)) t ≡ true
  counted_beyond test xs x t c p q =
      least_beyond o (times_where test xs) t
      ∙ (any_where test (λ f. times.below f t) xs
      ∙ any_at (λ i. cond (test i.place) (times.below i.time t) false) xs x c.0 c.1 c.2 (passes test x t p q))

  by_test : (c a b : Bool) → (c ≡ true → a ≡ true → b ≡ true) → (cond c a false || b) ≡ b
  by_test true true b f = sym (f refl refl)
  by_test true false b f = refl
  by_test false a b f = refl

  -- one item more, at a time that is beyond the frontier, leaves passed what was passed
  pub added_beyond : (test : Place → Bool) (xs : List (Counted T)) (x : Counted T) (t : T) → IsTrue (is_beyond times (least times (times_where test xs)) x.time) → is_beyond times (least times (times_where test (x ∷ xs))) t ≡ is_beyond times (least times (times_where test xs)) t
  added_beyond test xs x t h =
      let old = times_where test xs in
      let at_time : IsTrue (is_beyond times old x.time) = sym (least_beyond o old x.time) ∙ h in
      least_beyond o (times_where test (x ∷ xs)) t
      ∙ (any_where test (λ f. times.below f t) (x ∷ xs)
      ∙ (ap (λ b. cond (test x.place) (times.below x.time t) false || b) (sym (any_where test (λ f. times.below f t) xs))
      ∙ (by_test (test x.place) (times.below x.time t) (is_beyond times old t) (λ p q. beyond_up o old x.time t at_time q)
      ∙ sym (least_beyond o old t))))

  both_hold : (b c : Bool) → cond b c false ≡ true → (b ≡ true) × (c ≡ true)
  both_hold true c h = (refl, h)
  both_hold false c h = absurd (false≢true h)

  some_item : (p : Counted T → Bool) (xs : List (Counted T)) → list_any p xs ≡ true → (x : Counted T) × Among x xs × (p x ≡ true)
  some_item p [] h = absurd (false≢true h)
  some_item p (y ∷ ys) h =
      ⊎_elim
      (λ e. (y, inl refl, e))
      (λ k. let r = some_item p ys k in (r.0, inr r.1, r.2))
      (or_cases (p y) (list_any p ys) h)

  -- if a frontier has not passed a time, then some item that counts is at or before it
  pub counted_at : (test : Place → Bool) (xs : List (Counted T)) (t : T) → is_beyond times (least times (times_where test xs)) t ≡ true → (x : Counted T) × Contains xs x × (test x.place ≡ true) × (times.below x.time t ≡ true)
  counted_at test xs t h =
      let counts = λ (i : Counted T). cond (test i.place) (times.below i.time t) false in
      let r = some_item counts xs (sym (any_where test (λ f. times.below f t) xs) ∙ (sym (least_beyond o (times_where test xs) t) ∙ h)) in
      let b = both_hold (test r.0.place) (times.below r.0.time t) r.2 in
      (r.0, contains_among r.0 xs r.1, b.0, b.1)

  -- what was passed stays passed if each item that keeps the later frontier back kept the earlier
  -- one
  pub stays_passed : (F G : List T) → ((t : T) → is_beyond times G t ≡ true → is_beyond times F t ≡ true) → StaysPassed times F G
  stays_passed F G h t passed = not_from (is_beyond times G t) (λ k. not_true (is_beyond times F t) passed (h t k))

  -- a downgrade leaves passed what was passed
  pub downgraded : (test : Place → Bool) (old new : List (Counted T)) (x : Counted T) (later : T) → IsDowngrade times old new x later → StaysPassed times (least times (times_where test old)) (least times (times_where test new))
  downgraded test old new x later d =
      stays_passed (least times (times_where test old)) (least times (times_where test new)) (λ t h.
      let y : Counted T = record x { time = later } in
      let counts = λ (i : Counted T). cond (test i.place) (times.below i.time t) false in
      let at_new : list_any counts new ≡ true = sym (any_where test (λ f. times.below f t) new) ∙ (sym (least_beyond o (times_where test new) t) ∙ h) in
      let with_x : is_beyond times (times_where test (x ∷ new)) t ≡ true = any_where test (λ f. times.below f t) (x ∷ new) ∙ or_right (counts x) (list_any counts new) at_new in
      let with_y : list_any counts (y ∷ old) ≡ true = sym (any_where test (λ f. times.below f t) (y ∷ old)) ∙ (sym (counts_tell times test (x ∷ new) (y ∷ old) d.counts t) ∙ with_x) in
      ⊎_elim
      (λ e.
      let b = both_hold (test x.place) (times.below later t) e in
      counted_beyond test old x t d.counted b.0 (o.transitive x.time later t d.onward b.1))
      (λ e. least_beyond o (times_where test old) t ∙ (any_where test (λ f. times.below f t) old ∙ e))
      (or_cases (counts y) (list_any counts old) with_y))
