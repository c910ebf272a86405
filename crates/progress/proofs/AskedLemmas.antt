-- A loop that goes over those nodes alone that somebody asked about. It changes what a loop over
-- all nodes would, since each other node is marked, and what is kept of a marked node stays as it
-- is.
use Rattle.std.proofs.Common.{◌≡◌, ℕ, zero, suc, ◌+◌, ◌<◌, ◌≤◌, Bool, true, false, ◌||◌, eqb, List, [], ◌∷◌, length, take, refl, ap, sym, ◌∙◌, subst, arith, inl, ⊎_elim}
use Rattle.std.specs.List.{list_any}
use Rattle.std.specs.Prelude.{slice_index_or, slice_set}
use Rattle.std.proofs.lemmas.Bool.{cases_Bool, eq-eqb, eqb-true, or_cases, or_from, or_parts, false≢true, true≢false}
use Rattle.std.proofs.lemmas.List.{get_or_past, get_or_read}
use Rattle.std.proofs.lemmas.List.Folds.{list_any_more}
use Rattle.plan.specs.declared.node.Node.{Node}
use Rattle.progress.specs.declared.kept.Kept.{Kept}
use Rattle.progress.specs.declared.place.Place.{Place}
use Rattle.progress.specs.Kept.{AreAsked, HaveChanged, HaveChangedAt, IsForgotten, IsInserted, IsSpared, is_asked}
use Rattle.progress.proofs.ChangeLemmas.{same_or_not, set_here, set_there, set_length}
use Rattle.lattice.specs.Times.{Times}

-- the first elements pass no test that none of the list passes
none_of_first : {X : Type 0} (p : X → Bool) (xs : List X) (i : ℕ) → list_any p xs ≡ false → list_any p (take i xs) ≡ false
none_of_first p [] zero e = refl
none_of_first p [] (suc i) e = refl
none_of_first p (x ∷ xs) zero e = refl
none_of_first p (x ∷ xs) (suc i) e =
    let both = or_parts (p x) (list_any p xs) e in
    or_from (p x) (list_any p (take i xs)) both.0 (none_of_first p xs i both.1)

-- nobody asked about a node other than these
other_than : (asked : List ℕ) (n i : ℕ) → is_asked asked i ≡ true → is_asked asked n ≡ false → n ≡ i → ⊥
other_than asked n i there missing e = true≢false (sym there ∙ (sym (ap (λ j. is_asked asked j) e) ∙ missing))

module _ {A : Type 0} (R : ℕ → A → A → Type 0) where
  -- the next one has changed, which did not before
  pub at_more : (asked : List ℕ) (old new : List A) (i a : ℕ) (v y : A) → i < length asked → slice_index_or asked i a ≡ a → is_asked (take i asked) a ≡ false → a < length new → v ≡ slice_index_or new a v → R a v y → HaveChangedAt R (take i asked) old new → HaveChangedAt R (take (i + 1) asked) old (slice_set new a y)
  at_more asked old new i a v y l at once within here r h = record {
    len = set_length new a y ∙ h.len;
    changed = λ n d m e.
        ⊎_elim
        (λ s.
        subst (λ j. R j (slice_index_or old j d) (slice_index_or (slice_set new a y) j d)) (sym s)
        (subst (R a (slice_index_or old a d)) (sym (set_here new a y d within))
        (subst (λ w. R a w y) (get_or_read new a v within here d ∙ h.same a d once) r)))
        (λ f. subst (R n (slice_index_or old n d)) (sym (set_there new a n y d f)) (h.changed n d m (before n f (sym (more n) ∙ e))))
        (same_or_not n a);
    same = λ n d e.
        let parts = or_parts (is_asked (take i asked) n) (eqb a n) (sym (more n) ∙ e) in
        set_there new a n y d (λ s. true≢false (sym (eq-eqb a n (sym s)) ∙ parts.1)) ∙ h.same n d parts.0;
  }
    where
      more : (n : ℕ) → is_asked (take (i + 1) asked) n ≡ (is_asked (take i asked) n || eqb a n)
      more n = list_any_more (λ b. eqb b n) asked i a l ∙ ap (λ b. is_asked (take i asked) n || eqb b n) at

      before : (n : ℕ) → (n ≡ a → ⊥) → (is_asked (take i asked) n || eqb a n) ≡ true → is_asked (take i asked) n ≡ true
      before n f e = ⊎_elim (λ b. b) (λ b. absurd (f (sym (eqb-true a n b)))) (or_cases (is_asked (take i asked) n) (eqb a n) e)

  -- a loop that is left early has changed all if what stays the same counts as changed
  pub at_rest : ((n : ℕ) (a : A) → R n a a) → (asked : List ℕ) (old new : List A) (i : ℕ) → HaveChangedAt R (take i asked) old new → HaveChangedAt R asked old new
  at_rest all asked old new i h = record {
    len = h.len;
    changed = λ n d l e.
        ⊎_elim
        (λ b. h.changed n d l b)
        (λ b. subst (R n (slice_index_or old n d)) (sym (h.same n d b)) (all n (slice_index_or old n d)))
        (cases_Bool (is_asked (take i asked) n));
    same = λ n d e. h.same n d (none_of_first (λ a. eqb a n) asked i e);
  }

module _ {T : Type 0} where
  -- what changes at those nodes alone has changed at all, if a marked node may stay as it is
  pub changed_at_all : (R : ℕ → Kept T → Kept T → Type 0) → ((n : ℕ) (k : Kept T) → k.marked ≡ true → R n k k) → (asked : List ℕ) (old new : List (Kept T)) → AreAsked asked old → HaveChangedAt R asked old new → HaveChanged R old new (length old)
  changed_at_all R still asked old new a h = record {
    len = h.len;
    changed = λ n d l m.
        ⊎_elim
        (λ b. h.changed n d l b)
        (λ b. subst (R n (slice_index_or old n d)) (sym (h.same n d b)) (still n (slice_index_or old n d) (a.others n d l b)))
        (cases_Bool (is_asked asked n));
    same = λ n d l. get_or_past new n d (subst (λ z. z ≤ n) (sym h.len) l) ∙ sym (get_or_past old n d l);
  }

  -- the next of those nodes has changed
  pub at_next : (R : ℕ → Kept T → Kept T → Type 0) (asked : List ℕ) (old new : List (Kept T)) (i b a : ℕ) (v y : Kept T) → AreAsked asked old → i < length asked → b ≡ slice_index_or asked i b → a ≡ b → v ≡ slice_index_or new a v → R b v y → HaveChangedAt R (take i asked) old new → HaveChangedAt R (take (i + 1) asked) old (slice_set new a y)
  at_next R asked old new i b a v y all l is e here r h =
      let at : slice_index_or asked i a ≡ a = subst (λ n. slice_index_or asked i n ≡ n) (sym e) (sym is) in
      at_more R asked old new i a v y l at
      (subst (λ n. is_asked (take i asked) n ≡ false) at (all.once i a l))
      (subst (λ n. n < length new) at (subst (λ z. slice_index_or asked i a < z) (sym h.len) (all.within i a l)))
      here (subst (λ n. R n v y) (sym e) r) h

  -- the other nodes are marked still if one that somebody asked about is found anew
  pub asked_set : (asked : List ℕ) (ks : List (Kept T)) (i : ℕ) (y : Kept T) → is_asked asked i ≡ true → AreAsked asked ks → AreAsked asked (slice_set ks i y)
  asked_set asked ks i y there a = record {
    once = a.once;
    within = λ j d l. subst (λ z. slice_index_or asked j d < z) (sym (set_length ks i y)) (a.within j d l);
    others = λ n d l e.
        ap (λ k. k.marked) (set_there ks i n y d (other_than asked n i there e))
        ∙ a.others n d (subst (λ z. n < z) (set_length ks i y) l) e;
  }

  -- at first nobody asked about any
  pub asked_none : (ks : List (Kept T)) → ((n : ℕ) (d : Kept T) → n < length ks → (slice_index_or ks n d).marked ≡ true) → AreAsked [] ks
  asked_none ks all = record {
    once = λ i d l. absurd (omega (arith, l));
    within = λ i d l. absurd (omega (arith, l));
    others = λ n d l e. all n d l;
  }

module _ {T : Type 0} (nodes : List Node) (place : Place) where
  -- what the calls make of a marked node that stays as it is
  pub spared_still : (n : ℕ) (k : Kept T) → IsSpared nodes place n k k
  spared_still n k = record { others = λ _. refl; mark = refl }

  module _ (times : Times T) (t : T) where
    pub inserted_still : (n : ℕ) (k : Kept T) → k.marked ≡ true → IsInserted times nodes place t n k k
    inserted_still n k e = record {
      current = λ items is unmarked. absurd (false≢true (sym unmarked ∙ e));
      mark = refl;
    }

    pub forgotten_still : (n : ℕ) (k : Kept T) → k.marked ≡ true → IsForgotten times nodes place t n k k
    forgotten_still n k e = record {
      gone = λ items is unmarked. absurd (false≢true (sym unmarked ∙ e));
      later = λ items u onward is unmarked. absurd (false≢true (sym unmarked ∙ e));
      stays = λ h. h;
      reached = λ h. inl h;
    }
