use Rattle.std.proofs.Common.{◌≡◌, ◌++◌, [], get_or, subst, ap, ◌∙◌}
use Rattle.std.specs.Prelude.{OnOk}
use Rattle.histories.specs.Histories.States.{place}
use Rattle.histories.specs.Histories.Cuts.{part_by_key, bundled, bundles_along}
use Rattle.histories.proofs.HistoryLemmas.CutLemmas.{same_below}
use Rattle.machine.proofs.board.cut.push_for_workers.Goals as goal

pub returns-clause-more : goal.returns-clause-more
returns-clause-more g c =
    let times = g.T.PartialOrder.times in
    let edge = c.args.edge.now in
    let parts = c.in_ok-parts.parts.items in
    let workers = c.args.workers in
    let us = c.args.emission.now.updates in
    let same = ap (λ n. bundles_along times edge n (λ k. get_or parts k [])) c.in_ok-parts.ensures.workers
    ∙ same_below workers (λ k. bundled times (place edge.reader edge.port k) (get_or parts k [])) (λ k. bundled times (place edge.reader edge.port k) (part_by_key c.args.columns workers us k))
    (λ k l. ap (bundled times (place edge.reader edge.port k)) (c.in_ok-parts.ensures.parts k l ∙ ap (λ vs. part_by_key c.args.columns workers vs k) (c.as_slice.ensures.value ∙ c.in_ok-updates.ensures.copied))) in
    subst (λ bs. OnOk c.push_bundles.result (c.push_bundles.new.sent.items ≡ c.args.sent.now.items ++ bs)) same c.push_bundles.ensures.more
