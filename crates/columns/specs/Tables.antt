-- Rows that are kept column by column: a list for each column, and the width of each row.
use Rattle.std.specs.Prelude.{ℕ, suc, ◌-◌, ◌≤◌, List, [], ◌∷◌, ℤ, pos, map, length, take, slice_index_or}
use Rattle.std.specs.List.{All}

-- the row of this width at a place: what each of the first columns has there
abbrev pub row_at : List (List ℤ) → ℕ → ℕ → List ℤ
row_at columns place width = map (λ column. slice_index_or column place (pos 0)) (take width columns)

-- the rows of these widths, from a place on
abbrev pub rows_from : ℕ → List (List ℤ) → List ℕ → List (List ℤ)
rows_from place columns [] = []
rows_from place columns (width ∷ widths) = row_at columns place width ∷ rows_from (suc place) columns widths

-- the last one of some rows, or a row of no columns if there is none
abbrev pub last_row : List (List ℤ) → List ℤ
last_row rows = slice_index_or rows (length rows - 1) []

-- each column has an item for each row, and each row has 1 to 8 columns, all of them there
pub record IsTable (columns : List (List ℤ)) (widths : List ℕ) : Type 0 where
  pub long : All (λ column. length widths ≤ length column) columns
  pub some : All (λ width. 1 ≤ width) widths
  pub few : All (λ width. width ≤ 8) widths
  pub within : All (λ width. width ≤ length columns) widths
