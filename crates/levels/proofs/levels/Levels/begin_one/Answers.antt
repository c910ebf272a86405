use Rattle.std.proofs.Common.{ap}
use Rattle.levels.specs.Levels.{LevelsState}
use Rattle.levels.proofs.PlaceLemmas.{underway_begun}
use Rattle.levels.proofs.levels.Levels.begin_one.Goals as goal

pub invariant_of-self-2 : goal.invariant_of-self-2
invariant_of-self-2 g c =
    let h = c.in_ok-begun.ensures in
    underway_begun g.T.PartialOrder.times g.T.Ord.cmp c.self.inside.list.batches c.batches.result.now c.self.inside.underway.items c.reserve.new.self.items c.push.new.self.items c.args.self.now.underway c.in_ok-begun.begun c.args.i
    c.self.invariant c.batches.ensures.value h.at h.begun.number (ap (λ (s : LevelsState g.row.T.Denot). s.underway) c.self.view_is) c.requires.behind c.in_ok-reserve.ensures.items c.in_ok-push.ensures.items
