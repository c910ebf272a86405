use Rattle.std.proofs.Common.{sym, subst}
use Rattle.trace.specs.BatchLists.{BatchListState, IsRewriteAt}
use Rattle.trace.proofs.NeighbourLemmas.{list_rewritten}
use Rattle.trace.proofs.batch_list.BatchList.put_one.Goals as goal

pub invariant_of-self : goal.invariant_of-self
invariant_of-self g c =
    let m = c.args.rewritten in
    let one = subst (λ (s : BatchListState g.row.T.Denot). IsRewriteAt g.T.PartialOrder.times m.description.since m c.args.i s.batches) (sym c.self.view_is) c.requires.rewritten in
    list_rewritten g.T.Ord.cmp m.description.since _ c.args.i m c.self.invariant one
