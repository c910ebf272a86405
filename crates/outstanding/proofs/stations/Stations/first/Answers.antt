use Rattle.std.proofs.Common.{◌++◌, ap, sym, subst, refl, ◌∙◌}
use Rattle.progress.specs.Several.{AreCounted}
use Rattle.progress.specs.Tallies.{TallyState, SameCounts}
use Rattle.histories.specs.Histories.Outstanding.{items_held}
use Rattle.outstanding.specs.Loads.{all_held}
use Rattle.outstanding.proofs.GiveLemmas.{nothing_held}
use Rattle.outstanding.proofs.stations.Stations.first.Goals as goal

pub give_back-requires : goal.give_back-requires
give_back-requires g c =
    let i = c.loop-node in
    let none = ap (λ all. items_held (all_held all)) i.invariant.none ∙ ap items_held (nothing_held i._node c.args.workers) in
    subst (AreCounted i.tally.items) (sym none) (record { rest = i.tally.items; counts = λ test. refl })

pub returns-in-Err-clause-counted : goal.returns-in-Err-clause-counted
returns-in-Err-clause-counted g c =
    let i = c.loop-node in
    let none = ap (λ all. items_held (all_held all)) i.invariant.none ∙ ap items_held (nothing_held i._node c.args.workers) in
    subst (λ (t : TallyState g.row.T.Denot). SameCounts c.give_back.new.tally.items t.items) i.invariant.tally
    (subst (λ xs. SameCounts (xs ++ c.give_back.new.tally.items) i.tally.items) none c.give_back.ensures.counted)
