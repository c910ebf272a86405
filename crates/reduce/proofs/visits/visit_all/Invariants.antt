use Rattle.std.proofs.Common.{◌+◌, ◌-◌, ◌^◌, ◌≤◌, min, ℕ, List, take}
use Rattle.trace.specs.Readings.{all_content}
use Rattle.reduce.specs.Visits.{Visit, Gathers}
use Rattle.reduce.proofs.visits.visit_all.Given as goal

abbrev pub invariant-loop-place : goal.invariant-loop-place
invariant-loop-place g l =
    (visits : List (Visit g.row.T.Denot)) × (reads : ℕ)
    × Gathers g.T.PartialOrder.times l.frontier (g.R.Reducer.reduces l.reducer) (all_content g.B.BatchReader.content l.batches) l.histories.items (take l.place-index l.places) visits
    l.gathered.out l.gathered.changes.items l.gathered.waiting.items reads
    × (l.gathered.looked ≤ l.fn.looked + reads)
    × (min (l.fn.looked + reads) (2 ^ 64 - 1) ≤ l.gathered.looked)
