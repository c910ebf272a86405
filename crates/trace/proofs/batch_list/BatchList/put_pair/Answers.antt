use Rattle.std.proofs.Common.{subst, sym, rules}
use Rattle.trace.specs.BatchLists.{BatchListState, IsMergeAt}
use Rattle.trace.proofs.NeighbourLemmas.{list_merged, same_merged}
use Rattle.trace.proofs.batch_list.BatchList.put_pair.Goals as goal

pub invariant_of-self : goal.invariant_of-self
invariant_of-self g c =
    let one = subst (λ (s : BatchListState g.row.T.Denot). IsMergeAt g.T.PartialOrder.times c.args.merged.description.since c.args.merged c.args.i s.batches) (sym c.self.view_is) c.requires.merged in
    rw c.put_merged.ensures.items (list_merged g.met.T.PartialOrder.order g.met.T.Ord.total c.args.merged.description.since c.self.inside.worker c.self.inside.node c.self.inside.start.items c.self.inside.batches.items c.args.i c.args.merged _ _ c.self.invariant one)

pub returns : goal.returns
returns g c = same_merged _ _ c.args.i c.args.merged _ _ c.self.view_is c.put_merged.ensures.items (search rules)
