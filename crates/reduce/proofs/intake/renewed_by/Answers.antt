use Rattle.std.proofs.Common.{◌+◌, ◌<◌, length, map, subst, ⊎_elim, arith}
use Rattle.std.proofs.lemmas.Bool.{cases_lt}
use Rattle.std.specs.Prelude.{slice_range}
use Rattle.columns.specs.Runs.{row_starts, run_place}
use Rattle.columns.proofs.PlaceLemmas.{run_place_onward, run_place_within, run_place_up}
use Rattle.reduce.specs.Intake.{IsPlaced, IsRenewed, made_from}
use Rattle.joined_times.proofs.MemberLemmas.{all_pushed}
use Rattle.reduce.proofs.RunLemmas.{IsRun, run_found, run_ends}
use Rattle.reduce.proofs.TakenLemmas.{renewed_step, renewed_pending}
use Rattle.reduce.proofs.intake.renewed_by.Given.{Over}
use Rattle.reduce.proofs.intake.renewed_by.Goals.{In_ok-push}
use Rattle.reduce.proofs.intake.renewed_by.Goals as goal

-- what is found for the key of the next run are all runs of this key
found : (g : Over) (c : In_ok-push g) → IsRun c.args.k c.key_of-key.result (g.B.BatchReader.content c.args.batch.now) (run_place (g.B.BatchReader.content c.args.batch.now) c.loop-run.run) (run_place (g.B.BatchReader.content c.args.batch.now) c.seek_past_run-next.result)
found g c =
    let us = g.B.BatchReader.content c.args.batch.now in
    let run = c.loop-run.run in
    let next = c.seek_past_run-next.result in
    let more : run < length (row_starts us) = rw c.runs.ensures.runs at c.loop-run-test.true in
    let filled = run_place_onward us run more in
    let within = run_place_within us (run + 1) in
    run_found g.T.Ord.cmp c.args.k us c.key_of-key.result (run_place us run) (run_place us next) c.runs.ensures.ordered.ascending c.key_of-key.ensures.width c.key_of-key.ensures.key (omega (arith, filled, within))
    c.seek_past_run-next.ensures.onward (run_place_within us next)
    (rw c.columns.ensures.columns at c.seek_past_run-next.ensures.before) (rw c.columns.ensures.columns at c.seek_past_run-next.ensures.rest)

pub loop-run-smaller : goal.loop-run-smaller
loop-run-smaller g c =
    let us = g.B.BatchReader.content c.args.batch.now in
    let more = (found g c).some in
    let run = c.loop-run.run in
    let next = c.seek_past_run-next.result in
    let onward : run < next = ⊎_elim (λ h. h) (λ h. let back = run_place_up us next run h in absurd (omega (arith, back, more))) (cases_lt run next) in
    let upto = c.seek_past_run-next.ensures.within in
    omega (arith, onward, upto)

pub loop-run-preserved : goal.loop-run-preserved
loop-run-preserved g c =
    let us = g.B.BatchReader.content c.args.batch.now in
    let run = c.loop-run.run in
    let next = c.seek_past_run-next.result in
    let key = c.key_of-key.result in
    let is_run = found g c in
    let ordered = c.seek_past_run-next.ensures.onward in
    let start = c.loop-run.invariant.start in
    let end = c.run_start-end.ensures.place in
    let border = rw start at c.loop-run.invariant.border in
    let made = rw start at c.loop-run.invariant.made in
    let renewed = rw (start, end) at c.in_ok-renewed_run.ensures.renewed in
    record {
      within = c.seek_past_run-next.ensures.within;
      start = end;
      border = rw end (run_ends c.args.k key us (run_place us run) (run_place us next) ordered is_run border);
      made = rw end (renewed_step g.T.PartialOrder.times g.T.Ord.cmp c.args.k c.args.histories.now.items us (run_place us run) (run_place us next) key c.loop-run.made.items c.push.new.self.items c.in_ok-renewed_run.field-0 ordered (run_place_within us next) is_run border
          (subst (λ n. IsRenewed g.T.PartialOrder.times g.T.Ord.cmp n c.args.histories.now.items key (map (λ u. u.time) (slice_range us (run_place us run) (run_place us next))) (made_from c.args.histories.now.items c.in_ok-renewed_run.field-0)) c.key_of-key.ensures.width renewed)
          made c.in_ok-push.ensures.items);
      placed = rw c.in_ok-push.ensures.items (all_pushed (IsPlaced c.args.histories.now.items) c.loop-run.made.items c.in_ok-renewed_run.field-0 c.loop-run.invariant.placed c.in_ok-renewed_run.ensures.placed);
    }

pub returns-clause-due : goal.returns-clause-due
returns-clause-due g c =
    renewed_pending g.T.PartialOrder.times g.T.Ord.cmp c.args.k c.args.histories.now.items _ (map (made_from c.args.histories.now.items) c.loop-run.made.items) c.loop-run.invariant.made
