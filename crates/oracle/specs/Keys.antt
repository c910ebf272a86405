-- The range of a bag's entries that have the same key. Entries are sorted by row.
use Rattle.std.specs.Prelude.{◌≡◌, ◌≤◌, ◌<◌, ℕ, ℤ, Bool, true, false, List, [], take, length, nat_le, slice_index_or}
use Rattle.std.specs.List.{list_all, filter}
use Rattle.std.specs.Cmp.Lexicographic.{slice_cmp}
use Rattle.std.specs.Ordering.{int_cmp}
use Rattle.std.specs.declared.cmp.Ordering.{Ordering}
use Rattle.std.specs.declared.cmp.Ordering.TheVariants.{Less, Equal, Greater}
use Rattle.update.specs.Bags.{Entry}
use Rattle.plan.specs.Reductions.{has_key}

-- the ordering is Less (or Equal, if `equal`)
abbrev pub precedes : Bool → Ordering → Bool
precedes equal Less = true
precedes equal Equal = equal
precedes equal Greater = false

-- the entry's key is less than the key (or equal to it, if `equal`)
abbrev pub is_before_key : Bool → List ℤ → Entry → Bool
is_before_key equal key e = precedes equal (slice_cmp int_cmp (take (length key) e.row) key)

-- each row has at least k columns
abbrev pub have_keys : ℕ → List Entry → Bool
have_keys k es = list_all (λ e. nat_le k (length e.row)) es

-- the entries with this key are those from index `from` up to index `to`: there are none before,
-- there are none after, and all in between have the key
pub record IsKeyRange (k : ℕ) (key : List ℤ) (es : List Entry) (from to : ℕ) : Type 0 where
  pub order : from ≤ to
  pub inside : to ≤ length es
  pub before : filter (has_key k key) (take from es) ≡ []
  pub within : (i : ℕ) (d : Entry) → from ≤ i → i < to
      → has_key k key (slice_index_or es i d) ≡ true
  pub behind : filter (has_key k key) (take to es) ≡ filter (has_key k key) es

-- no entry before the index has the key of the entry at the index
abbrev pub IsKeyStart : ℕ → List Entry → ℕ → Type 0
IsKeyStart k es at = (d : Entry) → at < length es
    → filter (has_key k (take k (slice_index_or es at d).row)) (take at es) ≡ []
