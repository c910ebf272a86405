-- Steps of the loops that overwrite updates where they stand.
use Rattle.std.proofs.Common.{◌≡◌, ℕ, suc, ◌<◌, ◌≤◌, Bool, List, ◌∷◌, ◌++◌, map, take, drop, length, get_or, IsTrue, ap, sym, subst, ◌∙◌, arith, w64, FitsSigned, drop-cons}
use Rattle.std.specs.Prelude.{neg_ℤ, nat_le}
use Rattle.std.specs.List.{list_all, All}
use Rattle.std.proofs.lemmas.Bool.{and_parts, leb-true}
use Rattle.std.proofs.lemmas.List.{take_all, length-take-le, length-map, get_or-map}
use Rattle.std.proofs.lemmas.List.Elements.{All-map}
use Rattle.std.proofs.lemmas.List.Sums.{AllPass-from_list_all}
use Rattle.std.proofs.Math.Seq.{get_or-append_seam}
use Rattle.row.specs.Projection.{are_within}
use Rattle.row.specs.declared.projection.Item.{Item}
use Rattle.update.specs.declared.change.Update.{Update}
use Rattle.plan.specs.Rules.{is_width}
use Rattle.linear.specs.Applied.{negated_update, HasLargeDiff}
use Rattle.linear.specs.Widths.{takes_items}

module _ {X : Type 0} where
  -- an element that the loop has not read yet is unchanged
  pub unread : (f : X → X) (xs ys : List X) (i : ℕ) (d : X) → i < length xs → ys ≡ map f (take i xs) ++ drop i xs → get_or ys i d ≡ get_or xs i d
  unread f xs ys i d l e =
      let long : length (map f (take i xs)) ≡ i = length-map (take i xs) f ∙ length-take-le i xs (omega (arith, l)) in
      ap (λ zs. get_or zs i d) (e ∙ ap (λ rest. map f (take i xs) ++ rest) (drop-cons xs i d l))
      ∙ ap (λ n. get_or (map f (take i xs) ++ get_or xs i d ∷ drop (suc i) xs) n d) (sym long)
      ∙ get_or-append_seam (map f (take i xs)) (get_or xs i d) (drop (suc i) xs) d

  -- if all elements pass a test, then each does
  pub passes_at : (p : X → Bool) (xs : List X) (i : ℕ) (d : X) → i < length xs → IsTrue (list_all p xs) → IsTrue (p (get_or xs i d))
  passes_at p xs i d l h = AllPass-from_list_all p xs h i d l

  -- an element that the loop has not read yet passes the tests that all elements passed
  pub read_passes : (p : X → Bool) (f : X → X) (xs ys : List X) (i : ℕ) (d : X) → i < length xs → ys ≡ map f (take i xs) ++ drop i xs → IsTrue (list_all p xs) → IsTrue (p (get_or ys i d))
  read_passes p f xs ys i d l e h = subst (λ x. IsTrue (p x)) (sym (unread f xs ys i d l e)) (passes_at p xs i d l h)

  -- reading an element does not depend on the default value
  pub read_itself : (ys : List X) (i : ℕ) (r : X) → r ≡ get_or ys i r → get_or ys i r ≡ get_or ys i (get_or ys i r)
  read_itself ys i r e = subst (λ x. x ≡ get_or ys i x) e e

  -- an element passes the tests of all elements, given that the rest of the list is unchanged
  pub read_passes_from : (p : X → Bool) (xs ys : List X) (i : ℕ) (x : X) → i < length xs → length ys ≡ length xs → drop i ys ≡ drop i xs → x ≡ get_or ys i x → IsTrue (list_all p xs) → IsTrue (p x)
  read_passes_from p xs ys i x l long rest e h =
      let a = drop-cons xs i x l in
      let b = drop-cons ys i x (omega (arith, l, long)) in
      let same : get_or ys i x ≡ get_or xs i x = cc in
      subst (λ y. IsTrue (p y)) (sym (e ∙ same)) (passes_at p xs i x l h)

-- a map has at least one item
pub items_some : (items : List Item) (columns : ℕ) → IsTrue (takes_items items columns) → 1 ≤ length items
items_some items columns h =
    leb-true 1 (length items) (and_parts (nat_le 1 (length items)) (nat_le (length items) 8) (and_parts (is_width (length items)) (are_within items columns) h).0).0

-- a map has at most 8 items
pub items_few : (items : List Item) (columns : ℕ) → IsTrue (takes_items items columns) → length items ≤ 8
items_few items columns h =
    leb-true (length items) 8 (and_parts (nat_le 1 (length items)) (nat_le (length items) 8) (and_parts (is_width (length items)) (are_within items columns) h).0).1

-- each item of a map names a column that the row has
pub items_within : (items : List Item) (columns : ℕ) → IsTrue (takes_items items columns) → IsTrue (are_within items columns)
items_within items columns h = (and_parts (is_width (length items)) (are_within items columns) h).1

module _ {T : Type 0} where
  -- if the diff at hand cannot be negated, then the list has a diff that cannot
  pub large_here : (xs : List (Update T)) (i : ℕ) (u : Update T) → i < length xs → u ≡ get_or xs i u → (FitsSigned w64 (neg_ℤ u.diff) → ⊥) → HasLargeDiff (map negated_update xs)
  large_here xs i u l e large =
      let long = length-map xs negated_update in
      let there : get_or (map negated_update xs) i (negated_update u) ≡ negated_update u = get_or-map negated_update xs i u (negated_update u) l ∙ ap negated_update (sym e) in
      (i, negated_update u, omega (arith, l, long), there, large)

  -- at the end of the loop every negated diff is a 64-bit number
  pub none_large : (xs : List (Update T)) (i : ℕ) → length xs ≤ i → All (λ u. FitsSigned w64 (neg_ℤ u.diff)) (take i xs) → HasLargeDiff (map negated_update xs) → ⊥
  none_large xs i l fits large =
      let all : All (λ u. FitsSigned w64 (neg_ℤ u.diff)) xs = subst (All (λ u. FitsSigned w64 (neg_ℤ u.diff))) (take_all i xs l) fits in
      let here = All-map (λ u. FitsSigned w64 u.diff) negated_update xs all large.0 large.1 large.2 in
      large.4 (subst (λ (u : Update T). FitsSigned w64 u.diff) large.3 here)
