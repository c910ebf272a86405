use Rattle.std.proofs.Common.{rules, ◌-◌, ◌++◌, length, take, sym, ap, ◌∙◌, arith}
use Rattle.std.specs.List.{flat_map}
use Rattle.histories.specs.Histories.Cuts.{cut_along}
use Rattle.machine.proofs.BoardLemmas.CutLemmas.{cut_nothing, if_ok, last_behind, no_length}
use Rattle.machine.proofs.BoardLemmas.RoutingLemmas.{leading}
use Rattle.machine.proofs.board.routing.Routing.cut_along_edges.Goals as goal

pub cut_along_last-requires-clause-leads : goal.cut_along_last-requires-clause-leads
cut_along_last-requires-clause-leads g c =
    let edges = c.edges_from-edges.result.now in
    leading c.args.self.now.nodes c.args.emission.node (length edges - 1) c.index-edges-count.result edges c.edges_from-edges.ensures (omega (arith, c.if-count-eq0.false)) c.index-edges-count.is

pub returns-clause-cut : goal.returns-clause-cut
returns-clause-cut g c =
    let along = cut_along g.T.PartialOrder.times c.args.self.now c.args.emission in
    let edges = c.edges_from-edges.result.now in
    let last = c.index-edges-count.result in
    let n = length edges - 1 in
    let whole = last_behind along edges n last (omega (arith, c.if-count-eq0.false)) c.index-edges-count.is in
    if_ok c.cut_along_last.result _ _ (λ made s.
    s
    ∙ ap (λ bs. bs ++ along last) (c.in-Ok.ensures.cut ∙ ap (λ es. flat_map along (take n es)) (sym c.edges_from-edges.ensures))
    ∙ whole
    ∙ ap (flat_map along) c.edges_from-edges.ensures) c.cut_along_last.ensures.cut

pub returns-then-len-eq0-clause-cut : goal.returns-then-len-eq0-clause-cut
returns-then-len-eq0-clause-cut g c =
    let none = no_length c.args.emission.updates (sym c.len.ensures ∙ c.if-len-eq0.true) in
    search rules ∙ cut_nothing g.T.PartialOrder.times c.args.self.now c.args.emission none
