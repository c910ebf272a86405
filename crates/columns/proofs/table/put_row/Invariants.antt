use Rattle.std.proofs.Common.{◌≡◌, ℕ, ◌<◌, ◌≤◌, take, length, get_or, List, ℤ, pos}
use Rattle.std.specs.List.{All}
use Rattle.columns.specs.Tables.{row_at}
use Rattle.columns.proofs.table.put_row.Given as goal

-- the columns so far have the row's item at the place, and nothing changed at the places before it
abbrev pub invariant-loop-i : goal.invariant-loop-i
invariant-loop-i l = record {
  end : l.i-end ≡ length l.fn.columns.items;
  same : length l.columns.items ≡ length l.fn.columns.items;
  long : All (λ column. l.height ≤ length column) l.columns.items;
  longer : All (λ column. l.height < length column) (take l.i l.columns.items);
  kept : (place width : ℕ) → place < l.height → row_at l.columns.items place width ≡ row_at l.fn.columns.items place width;
  put : (c : ℕ) (d : List ℤ) → c < l.i → get_or (get_or l.columns.items c d) l.height (pos 0) ≡ get_or l.row c (pos 0);
}
