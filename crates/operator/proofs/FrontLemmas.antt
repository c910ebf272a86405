-- The least times of some updates: a step of the loops that find them, and what they are as a
-- frontier.
use Rattle.std.proofs.Common.{◌≡◌, ℕ, suc, ◌+◌, ◌<◌, Bool, true, false, cond, ◌||◌, Option, Some, None, List, [], ◌∷◌, ◌++◌, IsTrue, length, drop, get_or, add-one, drop-cons, refl, sym, subst, ◌∙◌, ap}
use Rattle.lattice.specs.Times.{Times}
use Rattle.lattice.specs.Order.{PartialOrderLaws}
use Rattle.lattice.specs.Frontiers.{is_beyond, all_beyond}
use Rattle.lattice.proofs.FrontierLemmas.{all_beyond_from}
use Rattle.std.specs.declared.cmp.Ordering.{Ordering}
use Rattle.std.specs.declared.cmp.Ordering.TheVariants.{Less}
use Rattle.std.specs.List.{list_all}
use Rattle.std.specs.Prelude.{IfSome}
use Rattle.std.proofs.lemmas.Bool.{and_parts}
use Rattle.std.proofs.lemmas.List.Folds.{list_any-append}
use Rattle.antichain.specs.Insertion.{insertion, not_above}
use Rattle.antichain.proofs.InsertionLemmas.{beyond_already, beyond_inserted}
use Rattle.update.specs.declared.change.Update.{Update}
use Rattle.batch.specs.Intervals.{open_updates}
use Rattle.operator.specs.Arrangements.{IsFrontOf, times_of}

or_turn : (a b c : Bool) → ((a || b) || c) ≡ (b || (a || c))
or_turn true true c = refl
or_turn true false c = refl
or_turn false true c = refl
or_turn false false c = refl

or_false : (b : Bool) → (b || false) ≡ b
or_false true = refl
or_false false = refl

or_assoc : (a b c : Bool) → ((a || b) || c) ≡ (a || (b || c))
or_assoc true b c = refl
or_assoc false b c = refl

-- the element that a loop is at, and those behind it
drop_next : {X : Type 0} (xs : List X) (i : ℕ) (x : X) → i < length xs → x ≡ get_or xs i x → drop i xs ≡ x ∷ drop (i + 1) xs
drop_next xs i x l e = rw add-one (drop-cons xs i x l ∙ ap (λ y. y ∷ drop (suc i) xs) (sym e))

or_other : (a b : Bool) → (a || (b || false)) ≡ (b || a)
or_other true true = refl
or_other true false = refl
or_other false true = refl
or_other false false = refl

module _ {T : Type 0} (times : Times T) (o : PartialOrderLaws times) where
  before : T → T → Ordering
  before s t = Less

  first_placed : (t : T) (xs : List T) → insertion before t xs ≡ t ∷ xs
  unfolding before
  first_placed t [] = refl
  first_placed t (x ∷ xs) = refl

  -- a time in place of those that it is at or before
  pub beyond_put : (t s : T) (xs : List T) → is_beyond times (not_above times t xs ++ t ∷ []) s ≡ (times.below t s || is_beyond times xs s)
  beyond_put t s xs =
      list_any-append (λ f. times.below f s) (not_above times t xs) (t ∷ [])
      ∙ or_other (is_beyond times (not_above times t xs) s) (times.below t s)
      ∙ ap (λ F. is_beyond times F s) (sym (first_placed t (not_above times t xs)))
      ∙ beyond_inserted o before t s xs

module _ {T : Type 0} (times : Times T) where
  -- one more update has gone into the front, and those that follow are still to come
  pub front_step : (F G : List T) (u : Update T) (rest : List (Update T)) (t : T) (all : Bool)
      → is_beyond times G t ≡ (times.below u.time t || is_beyond times F t)
      → (is_beyond times F t || is_beyond times (times_of (u ∷ rest)) t) ≡ all
      → (is_beyond times G t || is_beyond times (times_of rest) t) ≡ all
  front_step F G u rest t all e h =
      ap (λ b. b || is_beyond times (times_of rest) t) e
      ∙ or_turn (times.below u.time t) (is_beyond times F t) (is_beyond times (times_of rest) t) ∙ h

  -- the times of two lists
  pub beyond-append : (us vs : List (Update T)) (t : T) → is_beyond times (times_of (us ++ vs)) t ≡ (is_beyond times (times_of us) t || is_beyond times (times_of vs) t)
  beyond-append [] vs t = refl
  beyond-append (u ∷ us) vs t =
      ap (λ b. times.below u.time t || b) (beyond-append us vs t) ∙ sym (or_assoc (times.below u.time t) (is_beyond times (times_of us) t) (is_beyond times (times_of vs) t))

  -- a front of some updates, with the least times of more, is a front of all
  pub front_more : (F G : List T) (us vs : List (Update T)) → IsFrontOf times F us
      → ((t : T) → is_beyond times G t ≡ (is_beyond times F t || is_beyond times (times_of vs) t))
      → IsFrontOf times G (us ++ vs)
  front_more F G us vs f e = record {
    beyond = λ t. e t ∙ ap (λ b. b || is_beyond times (times_of vs) t) (f.beyond t) ∙ sym (beyond-append us vs t);
  }

  -- times that all updates are beyond, already
  pub beyond_covered : PartialOrderLaws times → (F : List T) (us : List (Update T)) (t : T) → IsTrue (list_all (λ u. is_beyond times F u.time) us) → is_beyond times F t ≡ (is_beyond times F t || is_beyond times (times_of us) t)
  beyond_covered o F [] t h = sym (or_false (is_beyond times F t))
  beyond_covered o F (u ∷ us) t h =
      let both = and_parts (is_beyond times F u.time) (list_all (λ v. is_beyond times F v.time) us) h in
      beyond_covered o F us t both.1
      ∙ ap (λ b. b || is_beyond times (times_of us) t) (beyond_already o u.time t F both.0)
      ∙ or_turn (times.below u.time t) (is_beyond times F t) (is_beyond times (times_of us) t)

  -- the front, with a newer one in its place if there is one
  pub front_renewed : {V : Type 0} (items : V → List T) (more : Option V) (F G : List T) (us vs : List (Update T)) → IsFrontOf times F us
      → IfSome more (λ v. (t : T) → is_beyond times (items v) t ≡ (is_beyond times F t || is_beyond times (times_of vs) t))
      → (more ≡ None → (t : T) → is_beyond times F t ≡ (is_beyond times F t || is_beyond times (times_of vs) t))
      → IfSome more (λ v. G ≡ items v) → (more ≡ None → G ≡ F) → IsFrontOf times G (us ++ vs)
  front_renewed items (Some v) F G us vs f some none is kept = subst (λ H. IsFrontOf times H (us ++ vs)) (sym is) (front_more F (items v) us vs f some)
  front_renewed items None F G us vs f some none is kept = subst (λ H. IsFrontOf times H (us ++ vs)) (sym (kept refl)) (front_more F F us vs f (none refl))

  -- a front and the times of its updates are beyond each other
  pub front_covers : PartialOrderLaws times → (F : List T) (us : List (Update T)) → IsFrontOf times F us → IsTrue (all_beyond times F (times_of us))
  front_covers o F us f = all_beyond_from o F (times_of us) (λ t h. f.beyond t ∙ h)

  pub front_tight : PartialOrderLaws times → (F : List T) (us : List (Update T)) → IsFrontOf times F us → IsTrue (all_beyond times (times_of us) F)
  front_tight o F us f = all_beyond_from o (times_of us) F (λ t h. sym (f.beyond t) ∙ h)

  -- a step of the loop over all updates
  pub front_loop : (F G : List T) (us : List (Update T)) (i : ℕ) (u : Update T) (t : T) (all : Bool) → i < length us → u ≡ get_or us i u
      → is_beyond times G t ≡ (times.below u.time t || is_beyond times F t)
      → (is_beyond times F t || is_beyond times (times_of (drop i us)) t) ≡ all
      → (is_beyond times G t || is_beyond times (times_of (drop (i + 1) us)) t) ≡ all
  front_loop F G us i u t all l here e h =
      front_step F G u (drop (i + 1) us) t all e
      (ap (λ (xs : List (Update T)). is_beyond times F t || is_beyond times (times_of xs) t) (sym (drop_next us i u l here)) ∙ h)

  module _ (upper : List T) where
    -- a step of the loop over the open updates, at one that is open
    pub open_loop : (F G : List T) (us : List (Update T)) (i : ℕ) (u : Update T) (t : T) (all : Bool) → i < length us → u ≡ get_or us i u
        → is_beyond times upper u.time ≡ true
        → is_beyond times G t ≡ (times.below u.time t || is_beyond times F t)
        → (is_beyond times F t || is_beyond times (times_of (open_updates times upper (drop i us))) t) ≡ all
        → (is_beyond times G t || is_beyond times (times_of (open_updates times upper (drop (i + 1) us))) t) ≡ all
    open_loop F G us i u t all l here is e h =
        let rest = open_updates times upper (drop (i + 1) us) in
        let next = ap (open_updates times upper) (drop_next us i u l here) ∙ ap (λ b. cond b (u ∷ rest) rest) is in
        front_step F G u rest t all e
        (ap (λ (xs : List (Update T)). is_beyond times F t || is_beyond times (times_of xs) t) (sym next) ∙ h)

    -- and at one that is not
    pub passed_loop : (F : List T) (us : List (Update T)) (i : ℕ) (u : Update T) (t : T) (all : Bool) → i < length us → u ≡ get_or us i u
        → is_beyond times upper u.time ≡ false
        → (is_beyond times F t || is_beyond times (times_of (open_updates times upper (drop i us))) t) ≡ all
        → (is_beyond times F t || is_beyond times (times_of (open_updates times upper (drop (i + 1) us))) t) ≡ all
    passed_loop F us i u t all l here is h =
        let rest = open_updates times upper (drop (i + 1) us) in
        let next = ap (open_updates times upper) (drop_next us i u l here) ∙ ap (λ b. cond b (u ∷ rest) rest) is in
        ap (λ (xs : List (Update T)). is_beyond times F t || is_beyond times (times_of xs) t) (sym next) ∙ h
