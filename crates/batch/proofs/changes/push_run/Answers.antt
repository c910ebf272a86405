use Rattle.std.proofs.Common.{FitsSigned, w64, refl, arith, rules}
use Rattle.std.proofs.lemmas.Int.{to_z-of_z}
use Rattle.batch.proofs.ChangeLemmas.{rest_length, rest_item, run_begun, run_some, run_more, run_ended}
use Rattle.batch.proofs.changes.push_run.Goals as goal

pub loop-change-init : goal.loop-change-init
loop-change-init g c =
    let fits : FitsSigned w64 c.first-item.result.diff = search rules in
    run_begun c.args.row.now c.args.changes.now c.args.columns.now _ c.first-item.result _ _ (omega (arith, c.in-len1-up.len_at_least)) c.first-item.is refl (to_z-of_z w64 c.first-item.result.diff fits) c.in_ok-push_row.ensures.more

pub push_again-requires : goal.push_again-requires
push_again-requires g c =
    run_some c.args.row.now c.args.changes.now c.args.columns.now _ c.loop-change.change-index c.change-item.result
    (omega (arith, c.loop-change-test.true, rest_length c.args.changes.now))
    c.loop-change.invariant

pub loop-change-preserved : goal.loop-change-preserved
loop-change-preserved g c =
    let fits : FitsSigned w64 c.change-item.result.diff = search rules in
    run_more c.args.row.now c.args.changes.now c.args.columns.now _ _ c.loop-change.change-index c.change-item.result _
    (omega (arith, c.loop-change-test.true, rest_length c.args.changes.now))
    c.loop-change.invariant
    (rest_item c.args.changes.now c.loop-change.change-index c.change-item.result c.change-item.is)
    (to_z-of_z w64 c.change-item.result.diff fits)
    c.in_ok-push_again.ensures.more

pub returns-clause-more : goal.returns-clause-more
returns-clause-more g c =
    run_ended c.args.row.now c.args.changes.now c.args.columns.now _ c.loop-change.change-index
    (omega (arith, c.loop-change-test.false, c.loop-change.auto.change-index-end, c.in-len1-up.len_at_least, rest_length c.args.changes.now))
    c.loop-change.invariant
