use Rattle.reduce.proofs.HeldLemmas.{within}
use Rattle.reduce.proofs.state.ReduceState.fold.Goals as goal

pub fold_all-requires : goal.fold_all-requires
fold_all-requires g c = rw c.as_slice.ensures (within g.T.PartialOrder.times c.self.inside.histories.items c.self.inside.waiting.items c.self.invariant.3)

-- the histories are as they were
pub invariant_of-self : goal.invariant_of-self
invariant_of-self g c = rw c.fold_all.ensures.items c.self.invariant
