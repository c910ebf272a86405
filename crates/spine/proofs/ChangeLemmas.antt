-- What a change leaves of a spine: which boundaries, which rows and times, and what it has read.
use Rattle.std.proofs.Common.{◌≡◌, ℕ, zero, suc, Bool, true, false, ◌||◌, List, [], ◌∷◌, ◌++◌, map, set, take, drop, slice_get, option_to_list, Some, IsTrue, inl, inr, ⊎_elim, refl, sym, ◌∙◌, ap, subst, append_assoc}
use Rattle.std.specs.Prelude.{ℤ}
use Rattle.std.specs.List.{list_all, list_any}
use Rattle.std.proofs.lemmas.Bool.{and_parts, and_from, true≢false}
use Rattle.std.proofs.lemmas.List.Folds.{list_all-append}
use Rattle.antichain.proofs.Lists.{Among}
use Rattle.update.specs.declared.change.Update.{Update}
use Rattle.batch.specs.Compaction.{IsUpward}
use Rattle.batch.specs.Descriptions.{BatchState, DescriptionState}
use Rattle.trace.specs.Readings.{all_content}
use Rattle.trace.specs.BatchLists.{IsMergeAt, IsRewriteAt, merged_at, updates_of}
use Rattle.trace.specs.Holds.{HoldState}
use Rattle.levels.specs.Levels.{Change, Merged, Rewritten, changed}
use Rattle.spine.specs.HoldRules.{forbids}
use Rattle.spine.specs.Spines.{IsAllowed, is_barred}
use Rattle.lattice.specs.Times.{Times}

module _ {T : Type 0} where
  abbrev pub ends : List (BatchState T) → List (List T)
  ends bs = map (λ (b : BatchState T). b.description.upper) bs

  -- the one batch at a number
  first_is : (bs : List (BatchState T)) (i : ℕ) → take 1 (drop i bs) ≡ option_to_list (slice_get bs i)
  first_is [] zero = refl
  first_is [] (suc i) = refl
  first_is (b ∷ bs) zero = refl
  first_is (b ∷ bs) (suc i) = first_is bs i

  -- whether a boundary has to stay
  pub barred_is : (times : Times T) (holds : List (HoldState T)) (bs : List (BatchState T)) (i : ℕ) → is_barred times holds bs false i ≡ list_any (λ (b : BatchState T). forbids times holds b.description.upper) (option_to_list (slice_get bs i))
  barred_is times holds bs i = ap (list_any (λ (b : BatchState T). forbids times holds b.description.upper)) (first_is bs i)

  pub barred_at : (times : Times T) (holds : List (HoldState T)) (bs : List (BatchState T)) (i : ℕ) (a : BatchState T) → slice_get bs i ≡ Some a → is_barred times holds bs false i ≡ forbids times holds a.description.upper
  barred_at times holds bs i a e =
      barred_is times holds bs i
      ∙ ap (λ r. list_any (λ (b : BatchState T). forbids times holds b.description.upper) (option_to_list r)) e
      ∙ or_nothing (forbids times holds a.description.upper)
    where
      or_nothing : (b : Bool) → (b || false) ≡ b
      or_nothing true = refl
      or_nothing false = refl

module _ {T : Type 0} (times : Times T) (since : List T) where
  -- no boundary is new
  fewer_ends : (i : ℕ) (m : BatchState T) (bs : List (BatchState T)) → IsMergeAt times since m i bs → (u : List T) → Among u (ends (merged_at i m bs)) → Among u (ends bs)
  fewer_ends i m [] is u h = h
  fewer_ends zero m (a ∷ []) is u h = h
  fewer_ends zero m (a ∷ b ∷ bs) is u h =
      ⊎_elim (λ e. inr (inl (sym (ap (λ (d : DescriptionState T). d.upper) (is a b refl refl).described) ∙ e))) (λ k. inr (inr k)) h
  fewer_ends (suc i) m (a ∷ bs) is u h = ⊎_elim (λ e. inl e) (λ k. inr (fewer_ends i m bs is u k)) h

  -- and only the one between both is gone
  open_ends : (i : ℕ) (m : BatchState T) (bs : List (BatchState T)) → IsMergeAt times since m i bs → (u : List T) → ((a : BatchState T) → slice_get bs i ≡ Some a → a.description.upper ≡ u → ⊥) → Among u (ends bs) → Among u (ends (merged_at i m bs))
  open_ends i m [] is u other h = h
  open_ends zero m (a ∷ []) is u other h = h
  open_ends zero m (a ∷ b ∷ bs) is u other h =
      ⊎_elim
      (λ e. absurd (other a refl e))
      (λ k. ⊎_elim (λ e. inl (ap (λ (d : DescriptionState T). d.upper) (is a b refl refl).described ∙ e)) (λ n. inr n) k)
      h
  open_ends (suc i) m (a ∷ bs) is u other h = ⊎_elim (λ e. inl e) (λ k. inr (open_ends i m bs is u other k)) h

  -- a rewriting leaves all
  same_ends : (i : ℕ) (m : BatchState T) (bs : List (BatchState T)) → IsRewriteAt times since m i bs → ends (set bs i m) ≡ ends bs
  same_ends i m [] is = refl
  same_ends zero m (a ∷ bs) is = ap (λ (d : DescriptionState T). d.upper ∷ ends bs) (is a refl).described
  same_ends (suc i) m (a ∷ bs) is = ap (λ es. a.description.upper ∷ es) (same_ends i m bs is)

  -- what all stored updates pass, all pass still
  among_merged : (i : ℕ) (m : BatchState T) (bs : List (BatchState T)) → IsMergeAt times since m i bs → (p : List ℤ → T → Bool) → IsUpward times p → IsTrue (list_all (λ u. p u.row u.time) (all_content updates_of bs)) → IsTrue (list_all (λ u. p u.row u.time) (all_content updates_of (merged_at i m bs)))
  among_merged i m [] is p up h = h
  among_merged zero m (a ∷ []) is p up h = h
  among_merged zero m (a ∷ b ∷ bs) is p up h =
      let q = λ (u : Update T). p u.row u.time in
      let rest = all_content updates_of bs in
      let whole : IsTrue (list_all q ((a.updates ++ b.updates) ++ rest)) = ap (list_all q) (append_assoc a.updates b.updates rest) ∙ h in
      let parts = and_parts (list_all q (a.updates ++ b.updates)) (list_all q rest) (sym (list_all-append q (a.updates ++ b.updates) rest) ∙ whole) in
      list_all-append q m.updates rest ∙ and_from (list_all q m.updates) (list_all q rest) ((is a b refl refl).among p up parts.0) parts.1
  among_merged (suc i) m (a ∷ bs) is p up h =
      let q = λ (u : Update T). p u.row u.time in
      let parts = and_parts (list_all q a.updates) (list_all q (all_content updates_of bs)) (sym (list_all-append q a.updates (all_content updates_of bs)) ∙ h) in
      list_all-append q a.updates (all_content updates_of (merged_at i m bs))
      ∙ and_from (list_all q a.updates) (list_all q (all_content updates_of (merged_at i m bs))) parts.0 (among_merged i m bs is p up parts.1)

  among_rewritten : (i : ℕ) (m : BatchState T) (bs : List (BatchState T)) → IsRewriteAt times since m i bs → (p : List ℤ → T → Bool) → IsUpward times p → IsTrue (list_all (λ u. p u.row u.time) (all_content updates_of bs)) → IsTrue (list_all (λ u. p u.row u.time) (all_content updates_of (set bs i m)))
  among_rewritten i m [] is p up h = h
  among_rewritten zero m (a ∷ bs) is p up h =
      let q = λ (u : Update T). p u.row u.time in
      let rest = all_content updates_of bs in
      let parts = and_parts (list_all q a.updates) (list_all q rest) (sym (list_all-append q a.updates rest) ∙ h) in
      list_all-append q m.updates rest ∙ and_from (list_all q m.updates) (list_all q rest) ((is a refl).among p up parts.0) parts.1
  among_rewritten (suc i) m (a ∷ bs) is p up h =
      let q = λ (u : Update T). p u.row u.time in
      let parts = and_parts (list_all q a.updates) (list_all q (all_content updates_of bs)) (sym (list_all-append q a.updates (all_content updates_of bs)) ∙ h) in
      list_all-append q a.updates (all_content updates_of (set bs i m))
      ∙ and_from (list_all q a.updates) (list_all q (all_content updates_of (set bs i m))) parts.0 (among_rewritten i m bs is p up parts.1)

module _ {T : Type 0} (times : Times T) (since : List T) (holds : List (HoldState T)) where
  pub fewer_changed : (c : Change T) (bs : List (BatchState T)) → IsAllowed times since holds c bs → (u : List T) → Among u (ends (changed c bs)) → Among u (ends bs)
  fewer_changed (Merged i m) bs is u h = fewer_ends times m.description.since i m bs is.2 u h
  fewer_changed (Rewritten i m) bs is u h = subst (Among u) (same_ends times m.description.since i m bs is.2) h

  -- what a hold forbids is there still
  pub open_changed : (c : Change T) (bs : List (BatchState T)) → IsAllowed times since holds c bs → (u : List T) → IsTrue (forbids times holds u) → Among u (ends bs) → Among u (ends (changed c bs))
  open_changed (Merged i m) bs is u f h =
      open_ends times m.description.since i m bs is.2 u
      (λ a at same. true≢false (sym f ∙ ap (forbids times holds) (sym same) ∙ sym (barred_at times holds bs i a at) ∙ is.0.allowed))
      h
  open_changed (Rewritten i m) bs is u f h = subst (Among u) (sym (same_ends times m.description.since i m bs is.2)) h

  pub among_changed : (c : Change T) (bs : List (BatchState T)) → IsAllowed times since holds c bs → (p : List ℤ → T → Bool) → IsUpward times p → IsTrue (list_all (λ u. p u.row u.time) (all_content updates_of bs)) → IsTrue (list_all (λ u. p u.row u.time) (all_content updates_of (changed c bs)))
  among_changed (Merged i m) bs is p up h = among_merged times m.description.since i m bs is.2 p up h
  among_changed (Rewritten i m) bs is p up h = among_rewritten times m.description.since i m bs is.2 p up h
