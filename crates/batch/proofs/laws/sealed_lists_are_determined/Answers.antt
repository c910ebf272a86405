use Rattle.batch.proofs.DeterminedLemmas.{same_sealed, same_by_sums}
use Rattle.batch.proofs.laws.sealed_lists_are_determined.Goals as goal

pub returns : goal.returns
returns g c = record {
  totals = same_sealed g.met.T.PartialOrder.order g.met.T.Ord.total;
  sums = same_by_sums g.met.T.PartialOrder.order g.met.T.Ord.total;
}
