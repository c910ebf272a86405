use Rattle.std.proofs.Common.{◌≡◌, ◌++◌, subst, ap, ◌∙◌, arith}
use Rattle.std.specs.Prelude.{OnOk}
use Rattle.histories.specs.Histories.Dataflows.{Dataflow}
use Rattle.histories.specs.Histories.Cuts.{part_by_key, bundles_along}
use Rattle.histories.proofs.HistoryLemmas.CutLemmas.{along_giver, along_workers}
use Rattle.machine.proofs.BoardLemmas.RoutingLemmas.{column_within, column_there}
use Rattle.machine.proofs.board.routing.Routing.push_along.Goals as goal

pub index-requires : goal.index-requires
index-requires g c =
    let within = column_within _ c.args.self.now c.self.view_is _ _ c.self.invariant c.args.emission.now.node c.number.result c.args.edge.now c.requires.leads c.number.ensures in
    omega (arith, within, c.self.inside.arranged.ok.0)

pub returns-in-Some-clause-more : goal.returns-in-Some-clause-more
returns-in-Some-clause-more g c =
    let times = g.T.PartialOrder.times in
    let p = c.args.self.now in
    let e = c.args.emission.now in
    let edge = c.args.edge.now in
    let some = column_there _ p c.self.view_is _ _ c.self.invariant e.node c.number.result edge c.requires.leads c.number.ensures c.index.result.now c.index.ensures ∙ c.in-Some.is in
    let same = ap (λ (q : Dataflow). bundles_along times edge q.workers (part_by_key c.in-Some.columns q.workers e.updates)) c.self.view_is ∙ along_workers times p e edge c.requires.leads c.in-Some.columns some in
    subst (λ bs. OnOk c.push_for_workers.result (c.push_for_workers.new.sent.items ≡ c.args.sent.now.items ++ bs)) same c.push_for_workers.ensures.more

pub returns-in-None-clause-more : goal.returns-in-None-clause-more
returns-in-None-clause-more g c =
    let times = g.T.PartialOrder.times in
    let p = c.args.self.now in
    let e = c.args.emission.now in
    let edge = c.args.edge.now in
    let none = column_there _ p c.self.view_is _ _ c.self.invariant e.node c.number.result edge c.requires.leads c.number.ensures c.index.result.now c.index.ensures ∙ c.in-None.is in
    subst (λ bs. OnOk c.push_for_giver.result (c.push_for_giver.new.sent.items ≡ c.args.sent.now.items ++ bs)) (along_giver times p e edge c.requires.leads none c.requires.worker) c.push_for_giver.ensures.more
