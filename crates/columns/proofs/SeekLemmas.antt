-- A gallop over a sorted list ends at the first update that is not left behind. What a reader finds
-- by seeking a key, and then past it, are the rows of the key.
use Rattle.std.proofs.Common.{◌≡◌, ◌≢◌, ℕ, ◌+◌, ◌<◌, ◌≤◌, ⊎_elim, Bool, true, false, List, length, get_or, drop, ℤ, sym, ap, ◌∙◌, arith}
use Rattle.std.specs.Prelude.{slice_range}
use Rattle.std.specs.List.{AllWithin}
use Rattle.std.specs.List.Sorted.{IsStrictlySortedBy, IsPartitionedBy}
use Rattle.std.specs.Ordering.{is_lt, is_le}
use Rattle.std.specs.declared.cmp.Ordering.{Ordering}
use Rattle.std.specs.declared.cmp.Ordering.TheVariants.{Less, Greater}
use Rattle.std.proofs.lemmas.Bool.{cases_lt, false_from_ne_true, true≢false}
use Rattle.std.proofs.lemmas.List.{get_or_default}
use Rattle.update.specs.declared.change.Update.{Update}
use Rattle.columns.specs.Keys.{by_row_then_time, at_key, is_left_behind, AllBefore, NoneBefore, AllAfter, NoneAfter}
use Rattle.columns.proofs.KeyLemmas.{parted, keeps_upto, keeps_before, all_dropped, all_between_places, less_from_test, greater_from_test}

module _ {X : Type 0} (p : X → Bool) (xs : List X) where
  -- if an element passes the test, then so do all earlier ones
  pub passes_upto : (i j : ℕ) (e : X) → IsPartitionedBy p xs → j < length xs → p (get_or xs j e) ≡ true → AllWithin (λ x. p x ≡ true) xs i (j + 1)
  passes_upto i j e parts h t k d g l =
      parts k j d (omega (arith, l)) h (ap p (get_or_default xs j d e h) ∙ t)

  -- if an element fails the test, then so do all later ones
  pub fails_from : (j n : ℕ) (e : X) → IsPartitionedBy p xs → n ≤ length xs → p (get_or xs j e) ≡ false → AllWithin (λ x. p x ≡ false) xs j n
  fails_from j n e parts h f k d g l =
      false_from_ne_true (p (get_or xs k d))
      (λ t. true≢false (sym (ap p (get_or_default xs j e d (omega (arith, g, l, h))) ∙ parts j k d g (omega (arith, l, h)) t) ∙ f))

-- what holds up to an index and from there to another one holds up to that one
pub within_both : {X : Type 0} (P : X → Type 0) (xs : List X) (i j n : ℕ) → AllWithin P xs i j → AllWithin P xs j n → AllWithin P xs i n
within_both P xs i j n a b k d g l =
    ⊎_elim (λ h. a k d g h) (λ h. b k d h l) (cases_lt k j)

not_less : (o : Ordering) → is_lt o ≡ false → o ≢ Less
not_less o f e = true≢false (sym (ap is_lt e) ∙ f)

not_greater : (o : Ordering) → is_le o ≡ true → o ≢ Greater
not_greater o t e = true≢false (sym t ∙ ap is_le e)

module _ {T : Type 0} (cmp : T → T → Ordering) (key : List ℤ) where
  keeps : (through : Bool) (u v : Update T) → by_row_then_time cmp u v ≡ Less → is_left_behind key through v ≡ true → is_left_behind key through u ≡ true
  keeps true u v h e = keeps_upto cmp key u v h e
  keeps false u v h e = keeps_before cmp key u v h e

  -- what a reader leaves behind is at the front of a sorted list
  pub left_behind_parted : (through : Bool) (us : List (Update T)) → IsStrictlySortedBy (by_row_then_time cmp) us → IsPartitionedBy (is_left_behind key through) us
  left_behind_parted through us s = parted (by_row_then_time cmp) (is_left_behind key through) (keeps through) us s

-- the updates that are left behind on the way to a key come before it
pub gone_before : {T : Type 0} (key : List ℤ) (us : List (Update T)) (i j : ℕ) → AllWithin (λ u. is_left_behind key false u ≡ true) us i j → AllBefore key (slice_range us i j)
gone_before key us i j a = all_between_places (λ u. at_key key u ≡ Less) us i j (λ k d g h. less_from_test (at_key key (get_or us k d)) (a k d g h))

-- the others do not
pub rest_not_before : {T : Type 0} (key : List ℤ) (us : List (Update T)) (j : ℕ) → AllWithin (λ u. is_left_behind key false u ≡ false) us j (length us) → NoneBefore key (drop j us)
rest_not_before key us j a = all_dropped (λ u. at_key key u ≢ Less) us j (λ k d g h. not_less (at_key key (get_or us k d)) (a k d g h))

-- the updates that are left behind on the way through a key do not come after it
pub gone_not_after : {T : Type 0} (key : List ℤ) (us : List (Update T)) (i j : ℕ) → AllWithin (λ u. is_left_behind key true u ≡ true) us i j → NoneAfter key (slice_range us i j)
gone_not_after key us i j a = all_between_places (λ u. at_key key u ≢ Greater) us i j (λ k d g h. not_greater (at_key key (get_or us k d)) (a k d g h))

-- the others do
pub rest_after : {T : Type 0} (key : List ℤ) (us : List (Update T)) (j : ℕ) → AllWithin (λ u. is_left_behind key true u ≡ false) us j (length us) → AllAfter key (drop j us)
rest_after key us j a = all_dropped (λ u. at_key key u ≡ Greater) us j (λ k d g h. greater_from_test (at_key key (get_or us k d)) (a k d g h))
