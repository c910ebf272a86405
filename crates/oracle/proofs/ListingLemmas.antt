-- One step of a list of differences: what is subtracted, and what remains.
use Rattle.std.proofs.Common.{◌≡◌, ℕ, ◌+◌, ◌<◌, Bool, true, false, cond, List, [], ◌∷◌, ◌++◌, ℤ, map, take, length, get_or, ap, sym, subst, ◌∙◌, w64, FitsSigned, arith}
use Rattle.std.specs.Prelude.{pos, ◌+ℤ◌, neg_ℤ}
use Rattle.std.specs.List.{filter}
use Rattle.std.proofs.lemmas.Int.{ints}
use Rattle.std.proofs.lemmas.List.{map-append}
use Rattle.std.proofs.lemmas.List.Elements.{filter_more}
use Rattle.update.specs.Bags.{Entry, Alike, HasLargeCount, count_of, same_row}
use Rattle.update.specs.Updates.{as_of, entry}
use Rattle.update.specs.declared.change.Update.{Update}
use Rattle.plan.proofs.CountLemmas.{count_of-append}
use Rattle.update.specs.Bags.{entry_of}
use Rattle.oracle.specs.Listing.{HasLargeGap}
use Rattle.lattice.specs.Times.{Times}

-- the two entries of `put_off` subtract the update's diff from its row
pub taken_off : (old mid new : List Entry) (row : List ℤ) (m n : ℤ) → mid ≡ old ++ entry_of row m ∷ [] → new ≡ mid ++ entry_of row (pos 1) ∷ [] → (m +ℤ pos 1) +ℤ n ≡ pos 0
    → (r : List ℤ) → count_of new r +ℤ cond (same_row row r) n (pos 0) ≡ count_of old r
taken_off old mid new row m n e f z r =
    let first : count_of mid r ≡ count_of old r +ℤ count_of (entry_of row m ∷ []) r = ap (λ es. count_of es r) e ∙ count_of-append old (entry_of row m ∷ []) r in
    let second : count_of new r ≡ count_of mid r +ℤ count_of (entry_of row (pos 1) ∷ []) r = ap (λ es. count_of es r) f ∙ count_of-append mid (entry_of row (pos 1) ∷ []) r in
    step (same_row row r) (count_of old r) (count_of mid r) (count_of new r) first second
  where
    step : (b : Bool) (x y w : ℤ) → y ≡ x +ℤ (cond b m (pos 0) +ℤ pos 0) → w ≡ y +ℤ (cond b (pos 1) (pos 0) +ℤ pos 0) → w +ℤ cond b n (pos 0) ≡ x
    step true x y w g h = omega (arith, ints, g, h, z)
    step false x y w g h = omega (arith, ints, g, h)

module _ {T : Type 0} (times : Times T) (t : T) where
  sum_more : (us : List (Update T)) (i : ℕ) (d : Update T) → i < length us → (r : List ℤ)
      → count_of (as_of times t (take (i + 1) us)) r ≡ count_of (as_of times t (take i us)) r +ℤ count_of (map entry (cond (times.below (get_or us i d).time t) (get_or us i d ∷ []) [])) r
  sum_more us i d l r =
      ap (λ vs. count_of (map entry vs) r) (filter_more (λ u. times.below u.time t) us i d l)
      ∙ (ap (λ es. count_of es r) (map-append entry (filter (λ u. times.below u.time t) (take i us)) (cond (times.below (get_or us i d).time t) (get_or us i d ∷ []) []))
      ∙ count_of-append (as_of times t (take i us)) (map entry (cond (times.below (get_or us i d).time t) (get_or us i d ∷ []) [])) r)

  -- the step over an update at or before t: it is subtracted
  pub off_more : (old mid new : List Entry) (us : List (Update T)) (i : ℕ) (d : Update T) → i < length us → times.below (get_or us i d).time t ≡ true
      → ((r : List ℤ) → count_of mid r +ℤ count_of (as_of times t (take i us)) r ≡ count_of old r)
      → ((r : List ℤ) → count_of new r +ℤ cond (same_row (get_or us i d).row r) (get_or us i d).diff (pos 0) ≡ count_of mid r)
      → (r : List ℤ) → count_of new r +ℤ count_of (as_of times t (take (i + 1) us)) r ≡ count_of old r
  off_more old mid new us i d l b h k r =
      let more : count_of (as_of times t (take (i + 1) us)) r ≡ count_of (as_of times t (take i us)) r +ℤ (cond (same_row (get_or us i d).row r) (get_or us i d).diff (pos 0) +ℤ pos 0) = sum_more us i d l r ∙ ap (λ b. count_of (as_of times t (take i us)) r +ℤ count_of (map entry (cond b (get_or us i d ∷ []) [])) r) b in
      let one = h r in
      let other = k r in
      omega (arith, ints, more, one, other)

  -- the step over any other update: nothing is subtracted
  pub off_same : (old mid : List Entry) (us : List (Update T)) (i : ℕ) (d : Update T) → i < length us → times.below (get_or us i d).time t ≡ false
      → ((r : List ℤ) → count_of mid r +ℤ count_of (as_of times t (take i us)) r ≡ count_of old r)
      → (r : List ℤ) → count_of mid r +ℤ count_of (as_of times t (take (i + 1) us)) r ≡ count_of old r
  off_same old mid us i d l b h r =
      let more : count_of (as_of times t (take (i + 1) us)) r ≡ count_of (as_of times t (take i us)) r +ℤ pos 0 = sum_more us i d l r ∙ ap (λ b. count_of (as_of times t (take i us)) r +ℤ count_of (map entry (cond b (get_or us i d ∷ []) [])) r) b in
      let one = h r in
      omega (arith, ints, more, one)

  -- if a count in the entries is too large, so is the gap
  pub large_gap : (entries wanted : List Entry) (us : List (Update T)) → ((r : List ℤ) → count_of entries r +ℤ count_of (as_of times t us) r ≡ count_of wanted r) → HasLargeCount entries → HasLargeGap times t wanted us
  large_gap entries wanted us h large = (large.0, λ fits. large.1 (subst (FitsSigned w64) (less (count_of entries large.0) (count_of (as_of times t us) large.0) (count_of wanted large.0) (h large.0)) fits))
    where
      less : (a b c : ℤ) → a +ℤ b ≡ c → c +ℤ neg_ℤ b ≡ a
      less a b c e = omega (arith, ints, e)

-- bags with the same counts have the same gaps
pub gap_alike : {T : Type 0} (times : Times T) (t : T) (bag wanted : List Entry) (us vs : List (Update T)) → Alike bag wanted → us ≡ vs → HasLargeGap times t bag us → HasLargeGap times t wanted vs
gap_alike times t bag wanted us vs alike e large =
    (large.0, λ fits. large.1 (subst (FitsSigned w64) (λ i. sym (alike large.0) i +ℤ neg_ℤ (count_of (as_of times t (sym e i)) large.0)) fits))
