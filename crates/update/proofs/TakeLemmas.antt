-- What `take_in` reads: whether two updates have the same row and time, and totals that fit in 128
-- bits.
use Rattle.std.proofs.Common.{◌≡◌, ℕ, Bool, List, length, slice_index_or, ℤ, ◌+ℤ◌, to_z, of_z, w64, ◌<◌, ◌≤◌, ◌*◌, ◌^◌, ap, sym, ◌∙◌, arith}
use Rattle.std.specs.Prelude.{FitsSigned, unsigned_abs}
use Rattle.std.specs.Int.{w128}
use Rattle.std.specs.declared.cmp.Ordering.{Ordering}
use Rattle.std.proofs.lemmas.Int.{ints, to_z-of_z}
use Rattle.std.proofs.lemmas.List.{get_or_read}
use Rattle.update.specs.declared.change.Update.{Update}
use Rattle.update.specs.Groups.{is_same}

-- the total of at most k diffs fits in 128 bits if k < 2^64
pub total_kept : (n : ℤ) (k : ℕ) → unsigned_abs n ≤ k * 2 ^ 63 → k < 2 ^ 64 → to_z w128 (of_z w128 n) ≡ n
total_kept n k small few = omega (arith, ints)

-- a diff fits in 128 bits
pub diff_kept : (m : ℤ) → FitsSigned w64 m → to_z w128 (of_z w128 m) ≡ m
diff_kept m fits = omega (arith, ints)

-- such a total with one more diff fits in 128 bits
pub sum_kept : (n m : ℤ) (k : ℕ) → unsigned_abs n ≤ k * 2 ^ 63 → k < 2 ^ 64 → FitsSigned w64 m → to_z w128 (of_z w128 (to_z w128 (of_z w128 n) +ℤ to_z w128 (of_z w128 m))) ≡ n +ℤ m
sum_kept n m k small few fits = omega (arith, ints)

module _ {T : Type 0} (us : List (Update T)) (i j : ℕ) (before : i < j) (within : j < length us) where
  -- the test of row and time is about the two updates that the contract names
  pub same_read : (cmp : T → T → Ordering) (u v d : Update T) (b x : Bool) → u ≡ slice_index_or us i u → v ≡ slice_index_or us j v → b ≡ is_same cmp u v → b ≡ x → is_same cmp (slice_index_or us i d) (slice_index_or us j d) ≡ x
  same_read cmp u v d b x is_u is_v test is_x =
      let first : u ≡ slice_index_or us i d = get_or_read us i u (omega (arith, before, within)) is_u d in
      let second : v ≡ slice_index_or us j d = get_or_read us j v within is_v d in
      ap (λ w. is_same cmp w (slice_index_or us j d)) (sym first) ∙ ap (is_same cmp u) (sym second) ∙ sym test ∙ is_x

  -- the diff that is read is the diff of the second update
  pub diff_read : (v d : Update T) (m : ℤ) → v ≡ slice_index_or us j v → FitsSigned w64 v.diff → m ≡ to_z w64 (of_z w64 (slice_index_or us j v).diff) → m ≡ (slice_index_or us j d).diff
  diff_read v d m is_v fits read =
      let second : v ≡ slice_index_or us j d = get_or_read us j v within is_v d in
      read ∙ ap (λ (w : Update T). to_z w64 (of_z w64 w.diff)) (sym is_v) ∙ to_z-of_z w64 v.diff fits ∙ ap (λ (w : Update T). w.diff) second

  -- a 64-bit diff read as a 128-bit number is itself
  pub diff_read_wide : (v d : Update T) (m : ℤ) → v ≡ slice_index_or us j v → FitsSigned w64 v.diff → FitsSigned w64 m → m ≡ to_z w64 (of_z w64 (slice_index_or us j v).diff) → to_z w128 (of_z w128 m) ≡ (slice_index_or us j d).diff
  diff_read_wide v d m is_v fits fits_m read = diff_kept m fits_m ∙ diff_read v d m is_v fits read

  -- the new total is the old one plus the diff that is read
  pub sum_read : (n : ℤ) (v d : Update T) (m : ℤ) → v ≡ slice_index_or us j v → FitsSigned w64 v.diff → FitsSigned w64 m → m ≡ to_z w64 (of_z w64 (slice_index_or us j v).diff) → unsigned_abs n ≤ j * 2 ^ 63 → j < 2 ^ 64 → to_z w128 (of_z w128 (to_z w128 (of_z w128 n) +ℤ to_z w128 (of_z w128 m))) ≡ n +ℤ (slice_index_or us j d).diff
  sum_read n v d m is_v fits fits_m read small few = sum_kept n m j small few fits_m ∙ ap (λ x. n +ℤ x) (diff_read v d m is_v fits read)
