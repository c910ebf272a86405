use Rattle.join.proofs.TotalLemmas.{left_first, right_first}
use Rattle.join.proofs.laws.both_sides_once.Goals as goal

pub returns : goal.returns
returns g c =
    let times = g.T.PartialOrder.times in
    record {
      left_first = λ p k. left_first times k p;
      right_first = λ p k. right_first times k p;
    }
