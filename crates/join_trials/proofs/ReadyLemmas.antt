-- What a test of each batch, one after the other, says of the updates of all of them; and what a
-- join asks, from such tests.
use Rattle.std.proofs.Common.{◌≡◌, ℕ, zero, suc, ◌+◌, Bool, true, ℤ, List, [], ◌∷◌, ◌&&◌, take, drop, length, slice_get, IsTrue, IsSomeAnd, refl, sym, ◌∙◌, ap, arith, length-drop}
use Rattle.std.specs.Prelude.{nat_le}
use Rattle.std.specs.List.{filter, list_all}
use Rattle.std.proofs.lemmas.Bool.{and_parts, and_from, leb-true, le-leb}
use Rattle.std.proofs.lemmas.List.Folds.{list_all-append}
use Rattle.lattice.specs.Times.{Times}
use Rattle.lattice.specs.Frontiers.{is_beyond}
use Rattle.lattice.proofs.FrontierLemmas.{all_more}
use Rattle.antichain.proofs.Lists.{all_filter}
use Rattle.update.specs.declared.change.Update.{Update}
use Rattle.trace.specs.Readings.{all_content}
use Rattle.join.specs.declared.side.Side.{Side}
use Rattle.join.specs.declared.side.Side.TheVariants.{Left, Right}
use Rattle.join.specs.Takes.{side_pairs_fit, CanTake}
use Rattle.join.specs.Pairs.{is_keyed, is_wide, fits, pairs_fit}

module _ {B T : Type 0} (content : B → List (Update T)) (p : Update T → Bool) where
  -- the updates of one more batch pass
  pub taken_batch : (bs : List B) (i : ℕ) (b : B) → IsSomeAnd (slice_get bs i) (λ c. b ≡ c) → IsTrue (list_all p (content b)) → IsTrue (list_all p (all_content content (take i bs))) → IsTrue (list_all p (all_content content (take (i + 1) bs)))
  taken_batch [] i b e t a = absurd e
  taken_batch (c ∷ bs) zero b e t a = list_all-append p (content c) [] ∙ and_from _ _ (ap (λ d. list_all p (content d)) (sym e) ∙ t) refl
  taken_batch (c ∷ bs) (suc i) b e t a =
      let next : suc i + 1 ≡ suc (i + 1) = omega arith in
      let parts = and_parts _ _ (sym (list_all-append p (content c) (all_content content (take i bs))) ∙ a) in
      ap (λ n. list_all p (all_content content (take n (c ∷ bs)))) next
      ∙ list_all-append p (content c) (all_content content (take (i + 1) bs))
      ∙ and_from _ _ parts.0 (taken_batch bs i b e t parts.1)

module _ {T : Type 0} (times : Times T) (since : List T) (k : ℕ) where
  abbrev ready : Update T → Bool
  ready u = is_beyond times since u.time && (is_wide k u.row && nat_le (length u.row) 4)

  abbrev short : Update T → Bool
  short u = nat_le (length u.row) 4

  -- rows of at most 4 columns have pairs of at most 8
  rows_fit : (row other : List ℤ) → nat_le (length row) 4 ≡ true → nat_le (length other) 4 ≡ true → nat_le (length row + length (drop k other)) 8 ≡ true
  rows_fit row other a b =
      let first = leb-true (length row) 4 a in
      let next = leb-true (length other) 4 b in
      let rest = length-drop k other in
      le-leb (length row + length (drop k other)) 8 (omega (arith, first, next, rest))

  short_fit : (us vs : List (Update T)) → IsTrue (list_all short us) → IsTrue (list_all short vs) → IsTrue (pairs_fit k us vs)
  short_fit us vs a b =
      all_more short (λ u. list_all (fits k u) (filter (is_keyed k (take k u.row)) vs))
      (λ u h.
      all_filter (fits k u) (is_keyed k (take k u.row)) vs
      (all_more short (fits k u) (λ v g. rows_fit u.row v.row h g) vs b))
      us a

  side_fit : (side : Side) (us vs : List (Update T)) → IsTrue (list_all short us) → IsTrue (list_all short vs) → IsTrue (side_pairs_fit side k us vs)
  side_fit Left us vs a b = short_fit us vs a b
  side_fit Right us vs a b = short_fit vs us b a

  -- a batch that is ready may be taken if all rows of the other side are short
  pub ready_taken : (side : Side) (us vs : List (Update T)) → IsTrue (list_all ready us) → IsTrue (list_all short vs) → CanTake side times k us since vs
  ready_taken side us vs a b = record {
    later = all_more ready (λ u. is_beyond times since u.time) (λ u h. (and_parts _ _ h).0) us a;
    wide = all_more ready (λ u. is_wide k u.row) (λ u h. (and_parts _ _ (and_parts _ _ h).1).0) us a;
    narrow = side_fit side us vs (all_more ready short (λ u h. (and_parts _ _ (and_parts _ _ h).1).1) us a) b;
  }
