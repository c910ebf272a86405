use Rattle.std.proofs.Common.{◌≡◌, ◌++◌, drop, map}
use Rattle.std.specs.List.{list_all}
use Rattle.outstanding.specs.Loads.{is_none}
use Rattle.outstanding.specs.Stations.{lot}
use Rattle.outstanding.proofs.stations.Stations.is_empty.Given as goal

-- the rows that are left give the answer
abbrev pub invariant-loop-row : goal.invariant-loop-row
invariant-loop-row g l = list_all (λ row. list_all (λ l. is_none (l.left ++ l.right)) (map lot row)) (drop l.row-index l.row-items) ≡ list_all (λ row. list_all (λ l. is_none (l.left ++ l.right)) (map lot row)) l.row-items
