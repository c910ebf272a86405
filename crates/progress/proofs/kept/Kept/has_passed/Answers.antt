use Rattle.std.proofs.Common.{◌≡◌, false, not, ap, sym, ◌∙◌, rules}
use Rattle.antichain.proofs.InsertionLemmas.{least_beyond}
use Rattle.progress.specs.Scopes.{is_in_scope}
use Rattle.progress.specs.Tallies.{times_where}
use Rattle.progress.proofs.KeptLemmas.{beyond_kept}
use Rattle.progress.proofs.kept.Kept.has_passed.Goals as goal

pub returns : goal.returns
returns g c =
    let unmarked : c.args.self.now.marked ≡ false = search rules in
    let front = c.in-Some.ensures c.args.graph.now c.args.items.now (c.requires.current unmarked) in
    ap not (c.is_beyond.ensures ∙ beyond_kept g.T.PartialOrder.times g.met.T.PartialOrder.order c.args.graph.now c.args.scope.now c.in-Some.elements.now c.args.items.now front c.args.t.now)

pub returns-2 : goal.returns-2
returns-2 g c =
    ap not (c.is_any_in.ensures ∙ sym (least_beyond g.met.T.PartialOrder.order (times_where (is_in_scope c.args.graph.now c.args.scope.now) c.args.items.now) c.args.t.now))
