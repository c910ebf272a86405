-- Two bags, gone through side by side.
use Rattle.std.specs.Prelude.{List, [], ◌∷◌, pos, drop}
use Rattle.std.specs.Cmp.Lexicographic.{slice_cmp}
use Rattle.std.specs.Ordering.{int_cmp}
use Rattle.std.specs.declared.cmp.Ordering.{Ordering}
use Rattle.std.specs.declared.cmp.Ordering.TheVariants.{Less, Equal, Greater}
use Rattle.update.specs.Bags.{Entry}
use Rattle.comparison.specs.declared.change.Change.{Change}
use Rattle.comparison.specs.declared.merge.Cursors.{Cursors}

-- a row of the first bag alone
abbrev pub only_before : Entry → Change
only_before x = record { row = x.row; before = x.count; after = pos 0 }

-- a row of the second bag alone
abbrev pub only_after : Entry → Change
only_after y = record { row = y.row; before = pos 0; after = y.count }

-- a row of both bags
abbrev pub in_both : Entry → Entry → Change
in_both x y = record { row = x.row; before = x.count; after = y.count }

-- which of the bags has the next row; one that has no row left comes second
abbrev pub heads_order : List Entry → List Entry → Ordering
heads_order xs [] = Less
heads_order [] (y ∷ ys) = Greater
heads_order (x ∷ xs) (y ∷ ys) = slice_cmp int_cmp x.row y.row

-- one of three, by the order
abbrev pub by_order : {X : Type 0} → Ordering → X → X → X → X
by_order Less less equal greater = less
by_order Equal less equal greater = equal
by_order Greater less equal greater = greater

-- the rows of two bags in order, each with its weights
abbrev pub merged : List Entry → List Entry → List Change
merged [] [] = []
merged [] (y ∷ ys) = only_after y ∷ merged [] ys
merged (x ∷ xs) [] = only_before x ∷ merged xs []
merged (x ∷ xs) (y ∷ ys) =
    by_order (slice_cmp int_cmp x.row y.row)
    (only_before x ∷ merged xs (y ∷ ys))
    (in_both x y ∷ merged xs ys)
    (only_after y ∷ merged (x ∷ xs) ys)

-- the rows from the cursors on
abbrev pub remaining : List Entry → List Entry → Cursors → List Change
remaining before after at = merged (drop at.before before) (drop at.after after)
