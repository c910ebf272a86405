use Rattle.std.proofs.Common.{◌++◌, ◌∙◌, ap}
use Rattle.std.specs.Prelude.{slice_range}
use Rattle.columns.specs.Runs.{run_place}
use Rattle.columns.proofs.PlaceLemmas.{all_runs}
use Rattle.operator.proofs.copies.plain_copy.Goals as goal

pub returns-clause-same : goal.returns-clause-same
returns-clause-same g c =
    let us = c.args.batch.now.updates in
    c.into.ensures
    ∙ c.in_ok-copy_runs.ensures.copied
    ∙ ap (λ vs. vs ++ slice_range us (run_place us 0) (run_place us c.runs-runs.result)) c.in_ok-list.ensures.items
    ∙ ap (λ n. slice_range us (run_place us 0) (run_place us n)) c.runs-runs.ensures.runs
    ∙ all_runs us c.runs-runs.ensures.first
