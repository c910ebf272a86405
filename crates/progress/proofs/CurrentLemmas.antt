-- What is kept of all nodes stays right or marked, whatever is counted.
use Rattle.std.proofs.Common.{◌≡◌, ℕ, ◌<◌, Bool, true, false, List, ◌∷◌, length, refl, ap, sym, subst, ◌∙◌, IsTrue, ◌⊎◌, inl, inr, ⊎_elim}
use Rattle.std.specs.List.{remove}
use Rattle.std.specs.Prelude.{Contains, slice_index_or, slice_set}
use Rattle.std.proofs.lemmas.Bool.{false≢true}
use Rattle.plan.specs.Ancestors.{reaches}
use Rattle.plan.specs.declared.node.Node.{Node}
use Rattle.progress.specs.declared.counted.Counted.{Counted}
use Rattle.progress.specs.declared.kept.Kept.{Kept}
use Rattle.progress.specs.declared.place.Place.{Place}
use Rattle.progress.specs.declared.scope.Scope.TheVariants.{Output, Input, Port}
use Rattle.progress.specs.Kept.{HaveChanged, IsInserted, IsForgotten, IsSpared, IsMarked, IsCurrent, AreCurrent, marks_of}
use Rattle.progress.specs.Scopes.{is_in_scope}
use Rattle.progress.specs.Tallies.{AreMarksBelow, SameCounts, node_of}
use Rattle.progress.proofs.ChangeLemmas.{changed_all, set_all}
use Rattle.progress.proofs.CountLemmas.{cancelled, counts_tell, exchanged, more_alike, removed}
use Rattle.progress.proofs.MarkLemmas.{marks_below, same_marks}
use Rattle.lattice.specs.Times.{Times}

either : (b : Bool) → (b ≡ true) ⊎ (b ≡ false)
either true = inl refl
either false = inr refl

module _ {T : Type 0} (nodes : List Node) (place : Place) (old mid new : List (Kept T)) (spared : HaveChanged (IsSpared nodes place) old mid (length old)) (marked : HaveChanged (IsMarked nodes place) mid new (length mid)) where
  long : (n : ℕ) → n < length new → n < length mid
  long n l = subst (λ z. n < z) marked.len l

  -- after a refusal each node that counts the place is marked, and the others are what they were
  apart : (n : ℕ) (d : Kept T) → n < length new → ((slice_index_or new n d).marked ≡ true) × (reaches nodes (node_of place) n ≡ true) ⊎ (slice_index_or new n d ≡ slice_index_or old n d)
  apart n d l =
      let s = changed_all (IsSpared nodes place) old mid spared n d (long n l) in
      let m = changed_all (IsMarked nodes place) mid new marked n d l in
      ⊎_elim
      (λ e. inl (m.below e, e))
      (λ e. inr (m.others e ∙ s.others e))
      (either (reaches nodes (node_of place) n))

  pub undone_current : (times : Times T) (items : List (Counted T)) → AreCurrent times nodes items old → AreCurrent times nodes items new
  undone_current times items all n d l =
      ⊎_elim
      (λ p. λ unmarked. absurd (false≢true (sym unmarked ∙ p.0)))
      (λ e. subst (IsCurrent times nodes items n) (sym e) (all n d (subst (λ z. n < z) spared.len (long n l))))
      (apart n d l)

  pub undone_marks : AreMarksBelow nodes place (marks_of old) (marks_of new)
  undone_marks = marks_below nodes place old new (marked.len ∙ spared.len)
      (λ n d l h. ⊎_elim (λ p. p.0) (λ e. ap (λ k. k.marked) e ∙ h) (apart n d l))
      (λ n d l h. ⊎_elim (λ p. inr p.1) (λ e. inl (sym (ap (λ k. k.marked) e) ∙ h)) (apart n d l))

module _ {T : Type 0} (times : Times T) (nodes : List Node) where
  -- what is kept stays right if the counts stay the same
  pub current_same : (ks : List (Kept T)) (xs ys : List (Counted T)) → SameCounts xs ys → AreCurrent times nodes xs ks → AreCurrent times nodes ys ks
  current_same ks xs ys same current n d l unmarked =
      let f = current n d l unmarked in
      record {
        output = λ t. f.output t ∙ counts_tell times (is_in_scope nodes (Output n)) xs ys same t;
        input = λ t. f.input t ∙ counts_tell times (is_in_scope nodes (Input n)) xs ys same t;
        first = λ t. f.first t ∙ counts_tell times (is_in_scope nodes (Port n 0)) xs ys same t;
        second = λ t. f.second t ∙ counts_tell times (is_in_scope nodes (Port n 1)) xs ys same t;
      }

  -- it stays right if one node is found anew
  pub current_set : (items : List (Counted T)) (ks : List (Kept T)) (i : ℕ) (y : Kept T) → i < length ks → IsCurrent times nodes items i y → AreCurrent times nodes items ks → AreCurrent times nodes items (slice_set ks i y)
  current_set items ks i y l c all = set_all (IsCurrent times nodes items) ks i y l c all

  module _ (place : Place) (t : T) (old new : List (Kept T)) where
    pub inserted_current : (items : List (Counted T)) → HaveChanged (IsInserted times nodes place t) old new (length old) → AreCurrent times nodes items old → AreCurrent times nodes (record { place = place; time = t } ∷ items) new
    inserted_current items h all n d l =
        (changed_all (IsInserted times nodes place t) old new h n d l).current items (all n d (subst (λ z. n < z) h.len l))

    pub inserted_marks : HaveChanged (IsInserted times nodes place t) old new (length old) → marks_of new ≡ marks_of old
    inserted_marks h = same_marks old new h.len (λ n d l. (changed_all (IsInserted times nodes place t) old new h n d l).mark)

    module _ (h : HaveChanged (IsForgotten times nodes place t) old new (length old)) where
      pub gone_current : (items : List (Counted T)) → AreCurrent times nodes (record { place = place; time = t } ∷ items) old → AreCurrent times nodes items new
      gone_current items all n d l =
          (changed_all (IsForgotten times nodes place t) old new h n d l).gone items (all n d (subst (λ z. n < z) h.len l))

      pub later_current : (items : List (Counted T)) (u : T) → IsTrue (times.below t u) → AreCurrent times nodes (record { place = place; time = t } ∷ items) old → AreCurrent times nodes (record { place = place; time = u } ∷ items) new
      later_current items u onward all n d l =
          (changed_all (IsForgotten times nodes place t) old new h n d l).later items u onward (all n d (subst (λ z. n < z) h.len l))

      pub forgotten_marks : AreMarksBelow nodes place (marks_of old) (marks_of new)
      forgotten_marks = marks_below nodes place old new h.len
          (λ n d l. (changed_all (IsForgotten times nodes place t) old new h n d l).stays)
          (λ n d l. (changed_all (IsForgotten times nodes place t) old new h n d l).reached)

      -- the later item is counted in place of the other
      pub moved_current : (u : T) (before after : List (Counted T)) → Contains before (record { place = place; time = t }) → IsTrue (times.below t u) → SameCounts (record { place = place; time = t } ∷ after) (record { place = place; time = u } ∷ before) → AreCurrent times nodes before old → AreCurrent times nodes after new
      moved_current u before after there onward moved all =
          let x : Counted T = record { place = place; time = t } in
          let y : Counted T = record { place = place; time = u } in
          let rest = remove before there.0 in
          let left : SameCounts (x ∷ rest) before = removed before there.0 x there.1 (sym there.2) in
          let both : SameCounts (x ∷ after) (x ∷ (y ∷ rest)) = (λ test. moved test ∙ (sym (more_alike (x ∷ rest) before y left test) ∙ exchanged rest y x test)) in
          current_same new (y ∷ rest) after (λ test. sym (cancelled after (y ∷ rest) x both test))
          (later_current rest u onward (current_same old before (x ∷ rest) (λ test. sym (left test)) all))
