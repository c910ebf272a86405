-- The bag of a list of entries, as a function. Of all lists with the same counts, it is the one in
-- row order without zeros.
use Rattle.std.specs.Prelude.{List, [], ◌∷◌, if◌then◌else◌, pos, ◌+ℤ◌}
use Rattle.std.specs.Cmp.Lexicographic.{slice_cmp}
use Rattle.std.specs.Ordering.{int_cmp, int_eq}
use Rattle.std.specs.declared.cmp.Ordering.{Ordering}
use Rattle.std.specs.declared.cmp.Ordering.TheVariants.{Less, Equal, Greater}
use Rattle.update.specs.Bags.{Entry}

-- the entry in front of a list, unless its count is 0
abbrev pub in_front : Entry → List Entry → List Entry
in_front e rest = if int_eq e.count (pos 0) then rest else e ∷ rest

-- the entry inserted into a list that begins with x: in front of x if its row is less, added to x
-- if the rows are equal, and otherwise behind x
abbrev pub beside : Ordering → Entry → Entry → List Entry → List Entry → List Entry
beside Less e x xs behind = in_front e (x ∷ xs)
beside Equal e x xs behind = in_front (record x { count = e.count +ℤ x.count }) xs
beside Greater e x xs behind = x ∷ behind

-- the entry inserted into a list in row order
abbrev pub put : Entry → List Entry → List Entry
put e [] = in_front e []
put e (x ∷ xs) = beside (slice_cmp int_cmp e.row x.row) e x xs (put e xs)

-- all entries, inserted one by one
abbrev pub consolidated_bag : List Entry → List Entry
consolidated_bag [] = []
consolidated_bag (e ∷ entries) = put e (consolidated_bag entries)
