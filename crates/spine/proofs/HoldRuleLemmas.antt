-- What the since does while holds come, move and go.
use Rattle.std.proofs.Common.{◌≡◌, ℕ, zero, suc, ◌+◌, ◌≤◌, Bool, true, false, ◌||◌, List, [], ◌∷◌, ◌++◌, set, length, slice_get, Some, IsTrue, refl, sym, ◌∙◌, ap, ⊎_elim, arith, inl, inr, subst}
use Rattle.std.specs.List.{list_any, remove, Contains}
use Rattle.std.specs.declared.cmp.Ordering.{Ordering}
use Rattle.std.proofs.lemmas.Bool.{or_cases, or_left, or_right}
use Rattle.std.proofs.lemmas.List.Folds.{list_any-append}
use Rattle.lattice.specs.Times.{Times}
use Rattle.lattice.specs.Order.{PartialOrderLaws}
use Rattle.lattice.specs.Frontiers.{is_beyond, all_beyond}
use Rattle.lattice.proofs.FrontierLemmas.{beyond_later}
use Rattle.antichain.proofs.Lists.{Among, contains_among}
use Rattle.trace.specs.Holds.{HoldState}
use Rattle.trace.proofs.BoundaryLemmas.{some_same, none_some}
use Rattle.spine.specs.HoldRules.{IsSinceOf, logical_count}

or_itself : (b : Bool) → b ≡ (b || (b || false))
or_itself true = refl
or_itself false = refl

module _ {T : Type 0} where
  -- one more hold, and those that a move or a release leaves, counted
  pub count-append : (hs : List (HoldState T)) (h : HoldState T) → logical_count (hs ++ h ∷ []) ≡ logical_count hs + length h.logical
  count-append [] h = omega arith
  count-append (x ∷ hs) h = let e = count-append hs h in omega (arith, e)

  pub count_set : (hs : List (HoldState T)) (i : ℕ) (h : HoldState T) → logical_count (set hs i h) ≤ logical_count hs + length h.logical
  count_set [] i h = omega arith
  count_set (x ∷ hs) zero h = omega arith
  count_set (x ∷ hs) (suc i) h = let e = count_set hs i h in omega (arith, e)

  pub count_remove : (hs : List (HoldState T)) (i : ℕ) → logical_count (remove hs i) ≤ logical_count hs
  count_remove [] zero = omega arith
  count_remove [] (suc i) = omega arith
  count_remove (x ∷ hs) zero = omega arith
  count_remove (x ∷ hs) (suc i) = let e = count_remove hs i in omega (arith, e)

  -- the hold that moved is among the holds
  pub set_contains : (hs : List (HoldState T)) (i : ℕ) (from to hold : HoldState T) → slice_get hs i ≡ Some from → to ≡ hold → (new : List (HoldState T)) → new ≡ set hs i to → Contains new hold
  set_contains hs i from to hold e same new moved =
      subst (λ ks. Contains ks hold) (sym moved)
      (subst (λ k. Contains (set hs i k) hold) (sym same)
      (contains_among hold (set hs i hold) (by hs i e)))
    where
      by : (hs : List (HoldState T)) (i : ℕ) → slice_get hs i ≡ Some from → Among hold (set hs i hold)
      by [] i e = absurd (none_some e)
      by (x ∷ hs) zero e = inl refl
      by (x ∷ hs) (suc i) e = inr (by hs i e)

  -- if a hold moves from what passes a test to what does, then some hold passed it before
  pub any_set : (p : HoldState T → Bool) (hs : List (HoldState T)) (i : ℕ) (from to : HoldState T) → slice_get hs i ≡ Some from → (IsTrue (p to) → IsTrue (p from)) → IsTrue (list_any p (set hs i to)) → IsTrue (list_any p hs)
  any_set p [] i from to e f h = absurd (none_some e)
  any_set p (x ∷ hs) zero from to e f h =
      ⊎_elim (λ a. or_left (p x) (list_any p hs) (ap p (some_same e) ∙ f a)) (λ b. or_right (p x) (list_any p hs) b) (or_cases (p to) (list_any p hs) h)
  any_set p (x ∷ hs) (suc i) from to e f h =
      ⊎_elim (λ a. or_left (p x) (list_any p hs) a) (λ b. or_right (p x) (list_any p hs) (any_set p hs i from to e f b)) (or_cases (p x) (list_any p (set hs i to)) h)

  -- if a hold passes the test after a release, then one passed it before
  pub any_remove : (p : HoldState T → Bool) (hs : List (HoldState T)) (i : ℕ) → IsTrue (list_any p (remove hs i)) → IsTrue (list_any p hs)
  any_remove p [] zero h = h
  any_remove p [] (suc i) h = h
  any_remove p (x ∷ hs) zero h = or_right (p x) (list_any p hs) h
  any_remove p (x ∷ hs) (suc i) h =
      ⊎_elim (λ a. or_left (p x) (list_any p hs) a) (λ b. or_right (p x) (list_any p hs) (any_remove p hs i b)) (or_cases (p x) (list_any p (remove hs i)) h)

module _ {T : Type 0} (times : Times T) where
  -- one since is beyond another
  abbrev pub AreLater : List T → List T → Type 0
  AreLater since later = (t : T) → IsTrue (is_beyond times later t) → IsTrue (is_beyond times since t)

  module _ (cmp : T → T → Ordering) where
    -- a new hold that begins at the since does not change it
    pub since_held : (holds : List (HoldState T)) (since physical : List T) → IsSinceOf times cmp holds since → IsSinceOf times cmp (holds ++ record { logical = since; physical = physical } ∷ []) since
    since_held holds since physical is = record {
      frontier = is.frontier;
      beyond = λ t.
          let p = λ (h : HoldState T). is_beyond times h.logical t in
          or_itself (is_beyond times since t) ∙ ap (λ b. b || (is_beyond times since t || false)) (is.beyond t) ∙ sym (list_any-append p holds (record { logical = since; physical = physical } ∷ []));
    }

    -- the since goes forward with a hold
    pub later_moved : PartialOrderLaws times → (holds : List (HoldState T)) (since later : List T) (i : ℕ) (from to : HoldState T) → slice_get holds i ≡ Some from
        → IsTrue (all_beyond times from.logical to.logical) → IsSinceOf times cmp holds since → IsSinceOf times cmp (set holds i to) later → AreLater since later
    later_moved o holds since later i from to e onward was is t h =
        was.beyond t ∙ any_set (λ k. is_beyond times k.logical t) holds i from to e (λ k. beyond_later o from.logical to.logical t onward k) (sym (is.beyond t) ∙ h)

    -- and with a release
    pub later_removed : (holds : List (HoldState T)) (since later : List T) (i : ℕ) → IsSinceOf times cmp holds since → IsSinceOf times cmp (remove holds i) later → AreLater since later
    later_removed holds since later i was is t h = was.beyond t ∙ any_remove (λ k. is_beyond times k.logical t) holds i (sym (is.beyond t) ∙ h)
