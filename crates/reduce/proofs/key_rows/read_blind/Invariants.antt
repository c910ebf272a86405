use Rattle.std.proofs.Common.{◌≡◌, ◌++◌, false, map}
use Rattle.std.specs.Prelude.{slice_range}
use Rattle.reduce.specs.Seen.{as_seen}
use Rattle.reduce.proofs.key_rows.read_blind.Given as goal

abbrev pub invariant-loop-i : goal.invariant-loop-i
invariant-loop-i g l = l.rows.items ≡ l.fn.rows.items ++ map (as_seen false l.key) (slice_range (g.B.BatchReader.content l.batch) l.initial.i l.i)
