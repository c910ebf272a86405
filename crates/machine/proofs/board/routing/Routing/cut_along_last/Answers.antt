use Rattle.std.proofs.Common.{◌++◌, ap, ◌∙◌, ⊎_elim}
use Rattle.histories.specs.Histories.Cuts.{bundled}
use Rattle.histories.proofs.HistoryLemmas.CutLemmas.{along_giver, along_one}
use Rattle.machine.proofs.BoardLemmas.CutLemmas.{if_ok}
use Rattle.machine.proofs.board.routing.Routing.cut_along_last.Goals as goal

pub returns-then-goes_to_one-clause-cut : goal.returns-then-goes_to_one-clause-cut
returns-then-goes_to_one-clause-cut g c =
    let times = g.T.PartialOrder.times in
    let p = c.args.self.now in
    let e = c.args.emission in
    let edge = c.args.edge.now in
    let same = ⊎_elim (λ one. along_one times p e edge c.requires.leads one c.requires.worker) (λ none. along_giver times p e edge c.requires.leads none c.requires.worker) (c.goes_to_one.ensures c.if-goes_to_one.true) in
    if_ok c.sent_to.result _ _ (λ cut s. s ∙ ap (λ bs. c.args.sent.items ++ bs) (ap (λ site. bundled times site e.updates) c.place_at-place.ensures ∙ same)) c.sent_to.ensures.sent
