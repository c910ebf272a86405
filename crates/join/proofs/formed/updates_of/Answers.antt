use Rattle.std.proofs.Common.{arith}
use Rattle.columns.proofs.PlaceLemmas.{run_place_up}
use Rattle.join.proofs.formed.updates_of.Goals as goal

pub overflow_sub-result : goal.overflow_sub-result
overflow_sub-result g c =
    let up = run_place_up (g.B.BatchReader.content c.args.batch.now) c.args.runs.now.start c.args.runs.now.end c.requires in
    let first = c.run_start.ensures.place in
    omega (arith, up, first)
