-- Totals of pairs are bilinear: a total of pairs is a double sum, so it adds up over pieces of
-- either side and does not depend on the order of either side.
use Rattle.std.proofs.Common.{◌≡◌, ℕ, cond, List, ◌++◌, take, Bool, sym, ◌∙◌, arith}
use Rattle.std.specs.Prelude.{ℤ, pos, ◌+ℤ◌}
use Rattle.std.specs.List.{filter}
use Rattle.std.specs.List.Sorted.{IsPermutation}
use Rattle.std.proofs.lemmas.Int.{ints}
use Rattle.update.specs.Bags.{total_by}
use Rattle.update.specs.Updates.{total_where}
use Rattle.update.specs.declared.change.Update.{Update}
use Rattle.update.proofs.SumLemmas.{total_by-same, total_by-add, total_by-append, total_by-map, total_by-filter, total_by-permutation}
use Rattle.plan.proofs.CountLemmas.{total_by-flat_map}
use Rattle.join.specs.Pairs.{is_keyed, pair_of, pairs_with, pairs}
use Rattle.lattice.specs.Times.{Times}

module _ {T : Type 0} (times : Times T) (k : ℕ) (p : List ℤ → T → Bool) where
  -- what an update adds to the total
  abbrev adds : Update T → ℤ
  adds u = cond (p u.row u.time) u.diff (pos 0)

  -- what two updates add to the total of the pairs
  abbrev pair_adds : Update T → Update T → ℤ
  pair_adds u v = cond (is_keyed k (take k u.row) v) (adds (pair_of times k u v)) (pos 0)

  -- what a left update adds, paired with the whole right list
  abbrev row_adds : List (Update T) → Update T → ℤ
  row_adds vs u = total_by (pair_adds u) vs

  abbrev total : List (Update T) → ℤ
  total us = total_where p us

  -- a total of pairs is a double sum
  total_pairs : (us vs : List (Update T)) → total (pairs times k us vs) ≡ total_by (row_adds vs) us
  total_pairs us vs =
      total_by-flat_map adds (λ u. pairs_with times k u vs) us
      ∙ total_by-same (λ u. total_by adds (pairs_with times k u vs)) (row_adds vs) us one
    where
      one : (u : Update T) → total_by adds (pairs_with times k u vs) ≡ row_adds vs u
      one u =
          total_by-map adds (pair_of times k u) (filter (is_keyed k (take k u.row)) vs)
          ∙ total_by-filter (λ v. adds (pair_of times k u v)) (is_keyed k (take k u.row)) vs

  -- two lists together have the totals of each, together
  pub total-append : (us vs : List (Update T)) → total (us ++ vs) ≡ total us +ℤ total vs
  total-append us vs = total_by-append adds us vs

  -- the left side may be cut into two pieces
  pub total_pairs-left : (us ws vs : List (Update T)) → total (pairs times k (us ++ ws) vs) ≡ total (pairs times k us vs) +ℤ total (pairs times k ws vs)
  total_pairs-left us ws vs =
      total_pairs (us ++ ws) vs
      ∙ total_by-append (row_adds vs) us ws
      ∙ sym (λ i. total_pairs us vs i +ℤ total_pairs ws vs i)

  -- the right side may be cut into two pieces
  pub total_pairs-right : (us vs xs : List (Update T)) → total (pairs times k us (vs ++ xs)) ≡ total (pairs times k us vs) +ℤ total (pairs times k us xs)
  total_pairs-right us vs xs =
      total_pairs us (vs ++ xs)
      ∙ total_by-same (row_adds (vs ++ xs)) (λ u. row_adds vs u +ℤ row_adds xs u) us (λ u. total_by-append (pair_adds u) vs xs)
      ∙ total_by-add (row_adds vs) (row_adds xs) us
      ∙ sym (λ i. total_pairs us vs i +ℤ total_pairs us xs i)

  -- both sides may be cut at once
  pub total_pairs-both : (us ws vs xs : List (Update T)) → total (pairs times k (us ++ ws) (vs ++ xs))
      ≡ (total (pairs times k us vs) +ℤ total (pairs times k us xs)) +ℤ (total (pairs times k ws vs) +ℤ total (pairs times k ws xs))
  total_pairs-both us ws vs xs =
      total_pairs-left us ws (vs ++ xs)
      ∙ (λ i. total_pairs-right us vs xs i +ℤ total_pairs-right ws vs xs i)

  -- the order of the left side does not matter
  pub total_pairs-left_order : (us ws vs : List (Update T)) → IsPermutation us ws → total (pairs times k us vs) ≡ total (pairs times k ws vs)
  total_pairs-left_order us ws vs moved =
      total_pairs us vs
      ∙ total_by-permutation (row_adds vs) us ws moved
      ∙ sym (total_pairs ws vs)

  -- the order of the right side does not matter
  pub total_pairs-right_order : (us vs xs : List (Update T)) → IsPermutation vs xs → total (pairs times k us vs) ≡ total (pairs times k us xs)
  total_pairs-right_order us vs xs moved =
      total_pairs us vs
      ∙ total_by-same (row_adds vs) (row_adds xs) us (λ u. total_by-permutation (pair_adds u) vs xs moved)
      ∙ sym (total_pairs us xs)

  -- what a new left piece makes with the old right side, and then a new right piece with the whole
  -- left side
  pub left_first : (us ws vs xs : List (Update T)) → total (pairs times k us vs ++ (pairs times k ws vs ++ pairs times k (us ++ ws) xs)) ≡ total (pairs times k (us ++ ws) (vs ++ xs))
  left_first us ws vs xs =
      let whole = total-append (pairs times k us vs) (pairs times k ws vs ++ pairs times k (us ++ ws) xs) in
      let new = total-append (pairs times k ws vs) (pairs times k (us ++ ws) xs) in
      let later = total_pairs-left us ws xs in
      let parts = total_pairs-both us ws vs xs in
      omega (arith, ints)

  -- what a new right piece makes with the old left side, and then a new left piece with the whole
  -- right side
  pub right_first : (us ws vs xs : List (Update T)) → total (pairs times k us vs ++ (pairs times k us xs ++ pairs times k ws (vs ++ xs))) ≡ total (pairs times k (us ++ ws) (vs ++ xs))
  right_first us ws vs xs =
      let whole = total-append (pairs times k us vs) (pairs times k us xs ++ pairs times k ws (vs ++ xs)) in
      let new = total-append (pairs times k us xs) (pairs times k ws (vs ++ xs)) in
      let later = total_pairs-right ws vs xs in
      let parts = total_pairs-both us ws vs xs in
      omega (arith, ints)
