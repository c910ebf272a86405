use Rattle.std.proofs.Common.{◌++◌, ◌∷◌, [], not, ap, sym, ◌∙◌}
use Rattle.std.specs.List.{filter}
use Rattle.lattice.specs.Frontiers.{is_beyond}
use Rattle.progress.proofs.KeptLemmas.{inserted, already}
use Rattle.progress.proofs.elements.insert_time.Goals as goal

pub returns-then-is_beyond-clause-beyond : goal.returns-then-is_beyond-clause-beyond
returns-then-is_beyond-clause-beyond g c s =
    let times = g.T.PartialOrder.times in
    already times g.met.T.PartialOrder.order c.args.elements.now.items c.args.t s (ap (λ ys. is_beyond times ys c.args.t) (sym c.deref.ensures.value) ∙ (sym c.is_beyond.ensures ∙ c.if-is_beyond.true))

pub returns-clause-beyond : goal.returns-clause-beyond
returns-clause-beyond g c s =
    let times = g.T.PartialOrder.times in
    ap (λ ys. is_beyond times ys s) (c.push_reserved.ensures.items ∙ ap (λ ys. ys ++ c.args.t ∷ []) (c.remove_above.ensures.rest ∙ ap (λ ys. filter (λ f. not (times.below c.args.t f)) ys) c.reserve.ensures.items))
    ∙ inserted times g.met.T.PartialOrder.order c.args.elements.now.items c.args.t s
