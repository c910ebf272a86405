use Rattle.std.proofs.Common.{◌≤◌, arith}
use Rattle.columns.proofs.PlaceLemmas.{run_place_up}
use Rattle.batch.proofs.CopyLemmas.{run_copied}
use Rattle.batch.proofs.copies.copy_runs.Goals as goal

pub overflow_sub-run_start : goal.overflow_sub-run_start
overflow_sub-run_start g c =
    let up = run_place_up (g.B.BatchReader.content c.args.batch.now) c.args.runs.start c.args.runs.end c.requires.ordered in
    omega (arith, up, c.run_start-2.ensures.place, c.run_start.ensures.place)

pub loop-run-preserved : goal.loop-run-preserved
loop-run-preserved g c =
    let begun : c.args.runs.start ≤ c.loop-run.run = omega (arith, c.loop-run.auto.run) in
    run_copied c.args.list.now.items c.loop-run.list.items _ (g.B.BatchReader.content c.args.batch.now) c.args.runs.start c.loop-run.run c.run_start-in-loop-run.result c.run_start-in-loop-run-2.result begun c.loop-run.invariant c.run_start-in-loop-run.ensures.place c.run_start-in-loop-run-2.ensures.place c.in_ok-copy_run.ensures.copied
