use Rattle.std.proofs.Common.{◌≢◌, ◌<◌, [], get_or, get_or-set_other, length, ap₂, ◌∙◌, arith}
use Rattle.std.proofs.lemmas.List.{length-set, get_or_read}
use Rattle.histories.specs.Histories.States.{place}
use Rattle.histories.specs.Histories.Cuts.{bundled}
use Rattle.machine.proofs.BoardLemmas.PartLemmas.{with_next}
use Rattle.machine.proofs.board.cut.push_bundles.Goals as goal

pub loop-worker-preserved : goal.loop-worker-preserved
loop-worker-preserved g c =
    let i = c.loop-worker in
    let parts = c.args.parts.items in
    let edge = c.args.edge.now in
    let there : i.worker < length i.parts.items = omega (arith, c.loop-worker-test.true, c.len-worker-end.ensures, c.args.parts.ok.0, i.invariant.long) in
    record {
      long = length-set i.parts.items i.worker c.take.new.self ∙ i.invariant.long;
      later = λ k h. let other : k ≢ i.worker = omega (arith, h) in get_or-set_other i.parts.items i.worker k c.take.new.self [] other ∙ i.invariant.later k (omega (arith, h));
      sent = with_next (λ k. bundled g.T.PartialOrder.times (place edge.reader edge.port k) (get_or parts k [])) c.args.sent.now.items i.sent.items c.push_bundle.new.sent.items (bundled g.T.PartialOrder.times c.place_at.result c.into.result) i.worker
          (ap₂ (bundled g.T.PartialOrder.times) c.place_at.ensures (c.into.ensures ∙ c.into_vec-updates.ensures ∙ c.take.ensures.taken ∙ (get_or_read i.parts.items i.worker c.index_mut.result.now there c.index_mut.ensures.value [] ∙ i.invariant.later i.worker (omega arith))))
          i.invariant.sent c.in_ok-push_bundle.ensures.more;
    }
