use Rattle.std.proofs.Common.{◌≡◌, ◌++◌, map, OnOk, sym, ap, ◌∙◌, subst, arith}
use Rattle.std.specs.Prelude.{slice_range}
use Rattle.columns.specs.Runs.{run_place}
use Rattle.columns.proofs.PlaceLemmas.{run_place_up}
use Rattle.reduce.specs.Seen.{as_seen}
use Rattle.reduce.proofs.KeyRowLemmas.{all_seen}
use Rattle.reduce.proofs.key_rows.read_runs.Goals as goal

pub returns-then-sees_rows-clause-read : goal.returns-then-sees_rows-clause-read
returns-then-sees_rows-clause-read g c =
    let us = g.B.BatchReader.content c.args.batch.now in
    let part = slice_range us (run_place us c.args.runs.start) (run_place us c.args.runs.end) in
    let seen : map (as_seen c.args.sees_rows c.args.key.now) part ≡ part = ap (λ sees. map (as_seen sees c.args.key.now) part) c.if-sees_rows.true ∙ all_seen c.args.key.now part in
    subst (λ vs. OnOk c.copy_runs.result (c.copy_runs.new.list.items ≡ c.args.rows.now.items ++ vs)) (sym seen) c.copy_runs.ensures.copied

pub read_blind-requires-clause-ordered : goal.read_blind-requires-clause-ordered
read_blind-requires-clause-ordered g c =
    let up = run_place_up (g.B.BatchReader.content c.args.batch.now) c.args.runs.start c.args.runs.end c.requires.ordered in
    let start = c.run_start.ensures.place in
    let end = c.run_start-2.ensures.place in
    omega (arith, up, start, end)
