-- The words that are items, comparisons or tests.
use Rattle.std.specs.Prelude.{ℕ, List, drop, Option, Some, None, Result, Ok, ◌==◌, slice_index, codes, if◌then◌else◌}
use Rattle.std.specs.Option.{option_map}
use Rattle.std.specs.Str.{bytes_eq}
use Rattle.row.specs.declared.projection.Item.{Item}
use Rattle.row.specs.declared.projection.Item.TheVariants.{Column, Constant}
use Rattle.row.specs.declared.test.Cmp.{Cmp}
use Rattle.row.specs.declared.test.Cmp.TheVariants.{Eq, Ne, Lt, Le, Gt, Ge}
use Rattle.row.specs.declared.test.Test.{Test}
use Rattle.update.specs.declared.refusal.Refusal.{Refusal}
use Rattle.update.specs.declared.refusal.Refusal.TheVariants.{UnknownCommand}
use Rattle.grammar.specs.Outcomes.{◌>>=◌, or_refused}
use Rattle.grammar.specs.Numbers.{whole_of, signed_of}
use Rattle.grammar.specs.Words.{each, number}

-- `c` followed by the number of a column, or `=` followed by a constant
abbrev pub item_of : List ℕ → Option Item
item_of word =
    if slice_index word 0 == 0x63 then option_map (λ n. Column n) (whole_of (drop 1 word))
    else if slice_index word 0 == 0x3d then option_map (λ z. Constant z) (signed_of (drop 1 word))
    else None

-- the comparison that a word names
abbrev pub comparison_of : List ℕ → Option Cmp
comparison_of word = if bytes_eq word (codes "eq") then Some Eq
    else if bytes_eq word (codes "ne") then Some Ne
    else if bytes_eq word (codes "lt") then Some Lt
    else if bytes_eq word (codes "le") then Some Le
    else if bytes_eq word (codes "gt") then Some Gt
    else if bytes_eq word (codes "ge") then Some Ge else None

-- a word that must be an item
unfoldable pub item : List ℕ → Result Item Refusal
item word = number (item_of word)

-- words that must all be items
unfoldable pub items : List (List ℕ) → Result (List Item) Refusal
items words = number (each item_of words)

-- a word that must be a comparison
unfoldable pub comparison : List ℕ → Result Cmp Refusal
comparison word = or_refused UnknownCommand (comparison_of word)

-- an item, a comparison and an item
unfoldable pub filter_test : List ℕ → List ℕ → List ℕ → Result Test Refusal
filter_test left op right = do
  left ← item left
  op ← comparison op
  right ← item right
  Ok (record { left = left; op = op; right = right })
