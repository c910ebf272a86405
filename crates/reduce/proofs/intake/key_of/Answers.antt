use Rattle.std.proofs.Common.{◌≡◌, ◌+◌, ◌≤◌, length, take, sym, ap, ◌∙◌, arith, length-take}
use Rattle.columns.specs.Runs.{run_place}
use Rattle.columns.proofs.PlaceLemmas.{run_place_onward, run_place_within}
use Rattle.reduce.proofs.RunLemmas.{first_of_run, some_there, wide_row}
use Rattle.reduce.proofs.intake.key_of.Goals as goal

pub key-requires : goal.key-requires
key-requires g c =
    let us = g.B.BatchReader.content c.args.batch.now in
    wide_row c.args.k us (run_place us c.args.run) c.run_row.result c.requires.wide (first_of_run us c.args.run c.run_row.result c.requires.within c.run_row.ensures)

pub returns-clause-key : goal.returns-clause-key
returns-clause-key g c =
    let us = g.B.BatchReader.content c.args.batch.now in
    let onward = run_place_onward us c.args.run c.requires.within in
    let within = run_place_within us (c.args.run + 1) in
    some_there (λ u. c.of.result ≡ take c.args.k u.row) us (run_place us c.args.run) (omega (arith, onward, within))
    (λ d. (c.of.ensures ∙ c.key-2.ensures) ∙ ap (take c.args.k) (sym (c.run_row.ensures (run_place us c.args.run) d (omega arith) onward)))

pub returns-clause-width : goal.returns-clause-width
returns-clause-width g c =
    let us = g.B.BatchReader.content c.args.batch.now in
    let wide : c.args.k ≤ length c.run_row.result = wide_row c.args.k us (run_place us c.args.run) c.run_row.result c.requires.wide (first_of_run us c.args.run c.run_row.result c.requires.within c.run_row.ensures) in
    ap length (c.of.ensures ∙ c.key-2.ensures) ∙ length-take c.args.k c.run_row.result ∙ omega (arith, wide)
