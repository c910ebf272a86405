use Rattle.join.proofs.TotalLemmas.{total_pairs-both, total_pairs-left_order, total_pairs-right_order}
use Rattle.join.proofs.laws.pieces_pair_up.Goals as goal

pub returns : goal.returns
returns g c =
    let times = g.T.PartialOrder.times in
    record {
      pieces = λ p k. total_pairs-both times k p;
      left_order = λ p k. total_pairs-left_order times k p;
      right_order = λ p k. total_pairs-right_order times k p;
    }
