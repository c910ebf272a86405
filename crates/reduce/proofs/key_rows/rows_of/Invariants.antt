use Rattle.std.proofs.Common.{◌≡◌, map, take, length}
use Rattle.std.specs.List.{filter}
use Rattle.trace.specs.Readings.{all_content}
use Rattle.joined_times.specs.Joined.{of_key}
use Rattle.reduce.specs.Seen.{as_seen}
use Rattle.reduce.proofs.key_rows.rows_of.Given as goal

abbrev pub invariant-loop-batch : goal.invariant-loop-batch
invariant-loop-batch g l = l.rows.items ≡ map (as_seen (g.R.Reducer.sees_rows l.reducer) l.key) (filter (of_key (length l.key) l.key) (all_content g.B.BatchReader.content (take l.batch-index l.batches)))
