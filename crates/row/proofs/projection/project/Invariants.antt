use Rattle.std.proofs.Common.{◌≡◌, take, length}
use Rattle.row.specs.Projection.{projection}
use Rattle.row.proofs.projection.project.Given as goal

-- the values so far are those of the items so far, and the list keeps its length
abbrev pub invariant-loop-i : goal.invariant-loop-i
invariant-loop-i l = record {
  room : length l.values ≡ 8;
  made : take l.i l.values ≡ projection (take l.i l.items) l.row;
}
