use Rattle.std.proofs.lemmas.Result.{err_from_is_err_and}
use Rattle.std.specs.List.{list_all}
use Rattle.join.specs.Pairs.{is_wide}
use Rattle.join.specs.FormedPairs.{formed_fits}
use Rattle.join.proofs.LargeLemmas.{refused_more}
use Rattle.join.proofs.RunLemmas.{run_more, run_large, run_within}
use Rattle.join.proofs.formed.Formed.pair_runs.Goals as goal

pub pair_row-requires-clause-wide : goal.pair_row-requires-clause-wide
pair_row-requires-clause-wide g c =
    run_within (λ u. is_wide c.args.k u.row) (g.B.BatchReader.content c.args.outer.now) c.args.runs.start c.loop-run.run c.args.runs.end c.run_start.result c.run_start-in-loop-run.result c.loop-run.auto.run c.loop-run-test.true c.run_start.ensures.place c.run_start-in-loop-run.ensures.place c.requires.wide

pub pair_row-requires-clause-fits : goal.pair_row-requires-clause-fits
pair_row-requires-clause-fits g c =
    run_within (λ u. list_all (formed_fits c.args.side c.args.k u) c.args.inner.now) (g.B.BatchReader.content c.args.outer.now) c.args.runs.start c.loop-run.run c.args.runs.end c.run_start.result c.run_start-in-loop-run.result c.loop-run.auto.run c.loop-run-test.true c.run_start.ensures.place c.run_start-in-loop-run.ensures.place c.requires.fits

pub returns-in_err-pair_row-clause-refused : goal.returns-in_err-pair_row-clause-refused
returns-in_err-pair_row-clause-refused g c =
    let us = g.B.BatchReader.content c.args.outer.now in
    let p = err_from_is_err_and c.from_residual.result c.from_residual.ensures.1 in
    let large = run_large g.T.PartialOrder.times c.args.k c.args.side us c.args.inner.now c.args.runs.start c.loop-run.run c.run_start.result c.run_start-in-loop-run.result c.loop-run.auto.run c.run_start.ensures.place c.run_start-in-loop-run.ensures.place c.args.runs.end c.loop-run-test.true c.args.self.now.updates.items c.loop-run.self.updates.items c.loop-run.invariant in
    rw (p.1, p.2) (refused_more _ _ c.in_err-pair_row.field-0.0 large c.in_err-pair_row.ensures.refused)

pub loop-run-preserved : goal.loop-run-preserved
loop-run-preserved g c =
    let us = g.B.BatchReader.content c.args.outer.now in
    run_more g.T.PartialOrder.times c.args.k c.args.side us c.args.inner.now c.args.runs.start c.loop-run.run c.run_start.result c.run_start-in-loop-run.result c.loop-run.auto.run c.run_start.ensures.place c.run_start-in-loop-run.ensures.place c.args.self.now.updates.items c.loop-run.self.updates.items c.pair_row.new.self.updates.items c.loop-run.invariant c.in_ok-pair_row.ensures.formed
