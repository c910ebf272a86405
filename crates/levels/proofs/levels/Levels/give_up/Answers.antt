use Rattle.levels.proofs.PlaceLemmas.{underway_popped}
use Rattle.levels.proofs.levels.Levels.give_up.Goals as goal

pub invariant_of-self : goal.invariant_of-self
invariant_of-self g c =
    underway_popped g.T.PartialOrder.times g.T.Ord.cmp c.self.inside.list.batches c.pop-given_up.new.self.items c.self.inside.underway.items c.pop-given_up.result c.pop-given_up.ensures.items c.self.invariant
