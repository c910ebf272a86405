use Rattle.std.proofs.Common.{sym, subst}
use Rattle.std.specs.List.Sorted.{IsStrictlySortedBy}
use Rattle.batch.specs.Batches.{IsSealed}
use Rattle.batch.proofs.merger.Merging.of_one.Goals as goal

pub begun-requires-clause-right : goal.begun-requires-clause-right
unfolding IsStrictlySortedBy
begun-requires-clause-right g c =
    subst (IsSealed g.T.Ord.cmp) (sym c.new-none.ensures) (record { ascending = tt; nonzero = tt })
