use Rattle.update.proofs.UniqueLemmas.{same_totals, same_updates}
use Rattle.update.proofs.laws.sums_determine_a_list.Goals as goal

pub returns : goal.returns
returns g c =
    let order = g.met.T.PartialOrder.order in
    record {
      totals = same_totals order;
      updates = λ among us vs down same a b. same_updates order g.met.T.Ord.total among us vs (same_totals order among us vs down same) a b;
    }
