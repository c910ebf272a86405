use Rattle.std.proofs.Common.{rules, ◌+◌, ◌<◌, List, length, refl, sym, ◌∙◌, subst}
use Rattle.std.proofs.lemmas.Option.{slice_get_read, slice_get_within}
use Rattle.histories.specs.declared.event.Site.{Site}
use Rattle.machine.specs.Boards.{BoardState}
use Rattle.machine.specs.Boards.Reads.{on_board}
use Rattle.shared_board.specs.Ports.{IsFrontOf}
use Rattle.shared_board.proofs.PortLemmas.{AreMatched, matched_more}
use Rattle.shared_board.proofs.board.ports.frontiers_of.Goals as goal

pub loop-site-preserved : goal.loop-site-preserved
loop-site-preserved g c =
    let times = g.T.PartialOrder.times in
    let l = c.loop-site in
    let b = c.args.board.now in
    let ports = c.args.ports.now in
    let fronts = λ (site : Site) (front : List g.row.T.Denot). IsFrontOf times b.dataflow (on_board b) site front in
    let within : l.site-index < length ports = search rules in
    let site = c.site-item.result in
    let there = slice_get_read ports (length ports) l.site-index site refl within c.site-item.is in
    let here = subst (λ (z : BoardState g.row.T.Denot). IsFrontOf times z.dataflow (on_board z) site c.in_ok-front.front) l.invariant.kept c.in_ok-front.ensures.beyond in
    record {
      kept = c.port_frontier.ensures.kept ∙ l.invariant.kept;
      len = search rules;
      found = subst (λ fs. AreMatched fronts ports fs (l.site-index + 1)) (sym c.in_ok-push.ensures.items)
          (matched_more fronts ports l.fronts.items l.site-index site c.in_ok-front.front l.invariant.len there here l.invariant.found);
    }

pub returns-clause-found : goal.returns-clause-found
returns-clause-found g c i site e =
    let within : i < c.loop-site.site-index = search (rules, slice_get_within) in
    c.loop-site.invariant.found i site within e
