use Rattle.std.proofs.Common.{ap, ◌∙◌}
use Rattle.std.specs.List.{list_all}
use Rattle.histories.specs.Histories.States.{updates_at}
use Rattle.histories.proofs.HistoryLemmas.CutLemmas.{is_filled, is_stamped_beyond, cut_whole, cut_filled, cut_stamped}
use Rattle.machine.proofs.BoardLemmas.CutLemmas.{if_ok}
use Rattle.machine.proofs.board.routing.Routing.cut.Goals as goal

pub returns-clause-whole : goal.returns-clause-whole
returns-clause-whole g c =
    if_ok c.cut_along_edges.result _ _ (λ made s site. ap (updates_at site) s ∙ cut_whole g.T.PartialOrder.times c.args.self.now c.args.emission c.known.ensures c.requires site) c.cut_along_edges.ensures.cut

pub returns-clause-filled : goal.returns-clause-filled
returns-clause-filled g c =
    if_ok c.cut_along_edges.result _ _ (λ made s. ap is_filled s ∙ cut_filled g.T.PartialOrder.times c.args.self.now c.args.emission) c.cut_along_edges.ensures.cut

pub returns-clause-stamped : goal.returns-clause-stamped
returns-clause-stamped g c =
    if_ok c.cut_along_edges.result _ _ (λ made s held onward.
    ap (list_all (is_stamped_beyond g.T.PartialOrder.times held)) s
    ∙ cut_stamped g.T.PartialOrder.times c.args.self.now c.args.emission g.met.T.PartialOrder.order held onward) c.cut_along_edges.ensures.cut
