-- Equality of entries and of bags, as tests that decide it.
use Rattle.std.specs.Prelude.{◌≡◌, Bool, ◌&&◌, List, ℤ}
use Rattle.std.proofs.Common.{ap}
use Rattle.std.proofs.lemmas.Bool.{and_parts, and_from}
use Rattle.std.specs.Bool.{Decides}
use Rattle.std.specs.Cmp.{IsEquivalence, signed_Decides, decided}
use Rattle.std.specs.Cmp.Lexicographic.{pointwise, pointwise_decides}
use Rattle.std.specs.Cmp.Rules.{signed_items}
use Rattle.std.specs.Ordering.{int_eq}
use Rattle.update.specs.Bags.{same_row, Entry}

-- the entries have the same row and the same count
abbrev pub same_entry : Entry → Entry → Bool
same_entry a b = same_row a.row b.row && int_eq a.count b.count

-- the bags have the same entries
abbrev pub same_bag : List Entry → List Entry → Bool
same_bag = pointwise same_entry

make_entry : List ℤ → ℤ → Entry
make_entry row count = record { row = row; count = count }

-- entries are equal if their rows and counts are
pub same_parts : (a b : Entry) → a.row ≡ b.row → a.count ≡ b.count → a ≡ b
unfolding make_entry
same_parts a b e f = same_made a.row b.row a.count b.count e f
  where
    same_made : (r s : List ℤ) (c d : ℤ) → r ≡ s → c ≡ d → make_entry r c ≡ make_entry s d
    same_made r s c d e f = cc

entries_decide : (a b : Entry) → Decides (same_entry a b) (a ≡ b)
entries_decide a b = (
  λ h.
      let parts = and_parts _ _ h in
      same_parts a b ((signed_items a.row b.row).0 parts.0) ((signed_Decides a.count b.count).0 parts.1),
  λ e.
      let rows = (signed_items a.row b.row).1 (ap (λ (x : Entry). x.row) e) in
      let counts = (signed_Decides a.count b.count).1 (ap (λ (x : Entry). x.count) e) in
      and_from _ _ rows counts,
)

-- the test decides whether two bags are equal
pub bags_decide : (a b : List Entry) → Decides (same_bag a b) (a ≡ b)
bags_decide = pointwise_decides entries_decide

-- the test is an equivalence, as `PartialEq` and `Eq` of a bag ask
pub bags_equivalence : IsEquivalence same_bag
bags_equivalence = decided same_bag bags_decide
