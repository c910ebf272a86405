use Rattle.std.proofs.Common.{[], ◌∷◌, List, ap, sym, subst}
use Rattle.batch.specs.Descriptions.{BatchState}
use Rattle.trace.specs.BatchLists.{BatchListState}
use Rattle.levels.specs.Levels.{AreUnderway}
use Rattle.levels.proofs.PlaceLemmas.{underway_more}
use Rattle.levels.proofs.levels.Levels.insert.Goals as goal

pub invariant_of-self-2 : goal.invariant_of-self-2
invariant_of-self-2 g c =
    let times = g.T.PartialOrder.times in
    let cmp = g.T.Ord.cmp in
    let us = c.self.inside.underway.items in
    let all = ap (λ (s : BatchListState g.row.T.Denot). s.batches) c.in_ok-insert.ensures.ok in
    subst (λ (bs : List (BatchState g.row.T.Denot)). AreUnderway times cmp bs us) (sym all) (underway_more times cmp c.self.inside.list.batches (c.args.batch ∷ []) us c.self.invariant)
