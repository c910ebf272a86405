use Rattle.std.proofs.Common.{suc, slice_get, Some, List, ◌≡◌, subst, ap}
use Rattle.batch.specs.Descriptions.{BatchState}
use Rattle.trace.proofs.NeighbourLemmas.{linked_follow}
use Rattle.levels.specs.Levels.{LevelsState}
use Rattle.levels.proofs.PlaceLemmas.{underway_begun}
use Rattle.levels.proofs.levels.Levels.begin_two.Goals as goal

pub of_two-requires-clause-follows : goal.of_two-requires-clause-follows
of_two-requires-clause-follows g c a b e f =
    let here = c.batches.ensures.value in
    let l = c.self.inside.list in
    linked_follow g.T.PartialOrder.times g.T.Ord.cmp l.worker l.node l.start l.batches c.args.i a b c.batches.ensures.known.linked
    (subst (λ (bs : List (BatchState g.row.T.Denot)). slice_get bs c.args.i ≡ Some a) here e)
    (subst (λ (bs : List (BatchState g.row.T.Denot)). slice_get bs (suc c.args.i) ≡ Some b) here f)

pub invariant_of-self-2 : goal.invariant_of-self-2
invariant_of-self-2 g c =
    let h = c.in_ok-begun.ensures in
    underway_begun g.T.PartialOrder.times g.T.Ord.cmp c.self.inside.list.batches c.batches.result.now c.self.inside.underway.items c.reserve.new.self.items c.push.new.self.items c.args.self.now.underway c.in_ok-begun.begun c.args.i
    c.self.invariant c.batches.ensures.value h.at h.begun.number (ap (λ (s : LevelsState g.row.T.Denot). s.underway) c.self.view_is) c.requires.behind c.in_ok-reserve.ensures.items c.in_ok-push.ensures.items
