-- How readings go through later frontiers, appending, swapping and filtering by rows.
use Rattle.std.proofs.Common.{◌≡◌, ◌+◌, Bool, true, false, cond, ◌&&◌, List, ◌++◌, IsTrue, refl, sym, ◌∙◌, ap, arith}
use Rattle.std.specs.Prelude.{ℤ, pos, ◌+ℤ◌}
use Rattle.std.specs.List.{filter, list_all}
use Rattle.std.specs.Cmp.Rules.{signed_items}
use Rattle.std.proofs.lemmas.Bool.{and_parts, and_from}
use Rattle.std.proofs.lemmas.Int.{ints}
use Rattle.std.proofs.lemmas.List.Folds.{list_all-append}
use Rattle.lattice.specs.Times.{Times}
use Rattle.lattice.specs.Order.{PartialOrderLaws}
use Rattle.lattice.specs.Frontiers.{all_beyond}
use Rattle.lattice.proofs.FrontierLemmas.{beyond_later}
use Rattle.update.specs.Bags.{total_by, same_row, count_of}
use Rattle.update.specs.Updates.{as_of, size}
use Rattle.update.specs.declared.change.Update.{Update}
use Rattle.update.proofs.ConsolidatedLemmas.{summed_size_is, summed_size-append}
use Rattle.update.proofs.SumLemmas.{total_by-append, total_by-filter, total_by-same, total_by-zero}
use Rattle.update.proofs.UniqueLemmas.{count_as_of}
use Rattle.trace.specs.Readings.{SameBeyond, RowsAmong, IsReadable}

-- ---- the count of a row at a time

module _ {T : Type 0} (times : Times T) (t : T) (row : List ℤ) where
  -- what an update adds to the count
  abbrev pub adds : Update T → ℤ
  adds u = cond (same_row u.row row && times.below u.time t) u.diff (pos 0)

  -- the count of a row at a time
  abbrev pub count_at : List (Update T) → ℤ
  count_at us = count_of (as_of times t us) row

  -- a count is a total over the updates
  pub count_is : (us : List (Update T)) → count_at us ≡ total_by adds us
  count_is us = count_as_of times row t us

  -- the count in two lists together is the sum of both counts
  pub count-append : (us vs : List (Update T)) → count_at (us ++ vs) ≡ count_at us +ℤ count_at vs
  count-append us vs =
      let both = count_is (us ++ vs) in
      let left = count_is us in
      let right = count_is vs in
      let sum = total_by-append adds us vs in
      omega (arith, ints)

  -- if a test of rows passes the row, then the updates that pass have its count, and otherwise they
  -- do not have the row
  pub count-filter : (p : List ℤ → Bool) (us : List (Update T)) → count_at (filter (λ u. p u.row) us) ≡ cond (p row) (count_at us) (pos 0)
  count-filter p us =
      count_is (filter (λ u. p u.row) us)
      ∙ total_by-filter adds (λ u. p u.row) us
      ∙ total_by-same (λ u. cond (p u.row) (adds u) (pos 0)) (λ u. cond (p row) (adds u) (pos 0)) us (λ u. same u (same_row u.row row) refl)
      ∙ chosen (p row)
    where
      same : (u : Update T) (b : Bool) → same_row u.row row ≡ b → cond (p u.row) (cond (b && times.below u.time t) u.diff (pos 0)) (pos 0) ≡ cond (p row) (cond (b && times.below u.time t) u.diff (pos 0)) (pos 0)
      same u true e = ap (λ r. cond (p r) (cond (times.below u.time t) u.diff (pos 0)) (pos 0)) ((signed_items u.row row).0 e)
      same u false e = zeros (p u.row) (p row)
        where
          zeros : (b c : Bool) → cond b (pos 0) (pos 0) ≡ cond c (pos 0) (pos 0)
          zeros true true = refl
          zeros true false = refl
          zeros false true = refl
          zeros false false = refl

      chosen : (b : Bool) → total_by (λ u. cond b (adds u) (pos 0)) us ≡ cond b (count_at us) (pos 0)
      chosen true = sym (count_is us)
      chosen false = total_by-zero (λ _. pos 0) us (λ u m. refl)

-- ---- sums that are the same beyond a frontier

module _ {T : Type 0} (times : Times T) where
  -- what is the same beyond a frontier is the same beyond a later one
  pub same_later : PartialOrderLaws times → (F G : List T) (us vs : List (Update T)) → IsTrue (all_beyond times F G) → SameBeyond times F us vs → SameBeyond times G us vs
  same_later o F G us vs a same t h = same t (beyond_later o F G t a h)

  -- two pairs of lists with the same sums have the same sums together
  pub same_together : (F : List T) (us vs xs ys : List (Update T)) → SameBeyond times F us vs → SameBeyond times F xs ys → SameBeyond times F (us ++ xs) (vs ++ ys)
  same_together F us vs xs ys first second t h row =
      count-append times t row us xs
      ∙ (λ i. first t h row i +ℤ second t h row i)
      ∙ sym (count-append times t row vs ys)

  -- if the lists and their first parts have the same sums, then so do their second parts; so a
  -- reader who has read up to one boundary and up to the next knows what was inserted between them
  pub same_apart : (F : List T) (us vs xs ys : List (Update T)) → SameBeyond times F (us ++ xs) (vs ++ ys) → SameBeyond times F us vs → SameBeyond times F xs ys
  same_apart F us vs xs ys whole first t h row =
      let left = count-append times t row us xs in
      let right = count-append times t row vs ys in
      let both = whole t h row in
      let one = first t h row in
      omega (arith, ints)

  -- the order of two parts does not matter
  pub same_swapped : (F : List T) (us vs : List (Update T)) → SameBeyond times F (us ++ vs) (vs ++ us)
  same_swapped F us vs t h row =
      let one = count-append times t row us vs in
      let other = count-append times t row vs us in
      omega (arith, ints)

  -- a reader of one key alone sees the same sums too
  pub same_filtered : (p : List ℤ → Bool) (F : List T) (us vs : List (Update T)) → SameBeyond times F us vs → SameBeyond times F (filter (λ u. p u.row) us) (filter (λ u. p u.row) vs)
  same_filtered p F us vs same t h row =
      count-filter times t row p us
      ∙ ap (λ n. cond (p row) n (pos 0)) (same t h row)
      ∙ sym (count-filter times t row p vs)

-- ---- rows and sizes

module _ {T : Type 0} where
  -- the rows of two lists together are among those of the lists that they stand for
  pub rows_together : (us vs xs ys : List (Update T)) → RowsAmong us vs → RowsAmong xs ys → RowsAmong (us ++ xs) (vs ++ ys)
  rows_together us vs xs ys first second p h =
      let q = λ (u : Update T). p u.row in
      let parts = and_parts (list_all q vs) (list_all q ys) (sym (list_all-append q vs ys) ∙ h) in
      list_all-append q us xs ∙ and_from (list_all q us) (list_all q xs) (first p parts.0) (second p parts.1)

  -- the order of two parts does not matter to the rows
  pub rows_swapped : (us vs : List (Update T)) → RowsAmong (us ++ vs) (vs ++ us)
  rows_swapped us vs p h =
      let q = λ (u : Update T). p u.row in
      let parts = and_parts (list_all q vs) (list_all q us) (sym (list_all-append q vs us) ∙ h) in
      list_all-append q us vs ∙ and_from (list_all q us) (list_all q vs) parts.1 parts.0

  -- the size of two lists together is the sum of their sizes
  pub size-append : (us vs : List (Update T)) → size (us ++ vs) ≡ size us + size vs
  size-append us vs =
      sym (summed_size_is (us ++ vs))
      ∙ summed_size-append us vs
      ∙ (λ i. summed_size_is us i + summed_size_is vs i)

-- ---- what may be read in the place of other updates

module _ {T : Type 0} (times : Times T) where
  -- updates may be read in their own place
  pub readable_itself : (F : List T) (us : List (Update T)) → IsReadable times F us us
  readable_itself F us = record { sums = λ t h row. refl; rows = λ p h. h; smaller = omega arith }

  -- what may be read in the place of what may be read
  pub readable_in_turn : (F : List T) (us vs ws : List (Update T)) → IsReadable times F us vs → IsReadable times F vs ws → IsReadable times F us ws
  readable_in_turn F us vs ws r s = record {
    sums = λ t h row. r.sums t h row ∙ s.sums t h row;
    rows = λ p h. r.rows p (s.rows p h);
    smaller =
        let a = r.smaller in
        let b = s.smaller in
        omega (arith, a, b);
  }

  -- what may be read beyond a frontier may be read beyond a later one
  pub readable_later : PartialOrderLaws times → (F G : List T) (us vs : List (Update T)) → IsTrue (all_beyond times F G) → IsReadable times F us vs → IsReadable times G us vs
  readable_later o F G us vs a r = record { sums = same_later times o F G us vs a r.sums; rows = r.rows; smaller = r.smaller }

  -- readings of two parts are together a reading of both
  pub readable_together : (F : List T) (us vs xs ys : List (Update T)) → IsReadable times F us vs → IsReadable times F xs ys → IsReadable times F (us ++ xs) (vs ++ ys)
  readable_together F us vs xs ys r s = record {
    sums = same_together times F us vs xs ys r.sums s.sums;
    rows = rows_together us vs xs ys r.rows s.rows;
    smaller =
        let a = r.smaller in
        let b = s.smaller in
        let c = size-append us xs in
        let d = size-append vs ys in
        omega (arith, a, b, c, d);
  }

  -- the order of two parts does not matter to a reader
  pub readable_swapped : (F : List T) (us vs : List (Update T)) → IsReadable times F (us ++ vs) (vs ++ us)
  readable_swapped F us vs = record {
    sums = same_swapped times F us vs;
    rows = rows_swapped us vs;
    smaller =
        let c = size-append us vs in
        let d = size-append vs us in
        omega (arith, c, d);
  }
