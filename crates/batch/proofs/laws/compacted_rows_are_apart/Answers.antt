use Rattle.antichain.proofs.Lists.{among_contains}
use Rattle.batch.proofs.DeterminedLemmas.{compacted_apart}
use Rattle.batch.proofs.laws.compacted_rows_are_apart.Goals as goal

pub returns : goal.returns
returns g c F us u v some sealed h m n row same =
    compacted_apart g.met.T.PartialOrder.order g.met.T.Lattice.bounds g.met.T.Ord.total F us u v some sealed h (among_contains u us m) (among_contains v us n) row same
