use Rattle.std.proofs.Common.{sym, ◌∙◌}
use Rattle.update.specs.Bags.{count_of}
use Rattle.update.specs.Updates.{as_of}
use Rattle.plan.specs.Operators.{join_output}
use Rattle.lattice.proofs.BoundLemmas.{join_below}
use Rattle.join.specs.declared.side.Side.TheVariants.{Left, Right}
use Rattle.join.proofs.VisibleLemmas.{side_goes_on}
use Rattle.join.proofs.laws.goes_on.Goals as goal

pub returns : goal.returns
returns g c =
    let times = g.T.PartialOrder.times in
    let tested = join_below g.met.T.PartialOrder.order g.met.T.Lattice.bounds in
    record {
      left = λ k l r received after us emitted first second t before row.
          side_goes_on times tested Left k us (received 0) (received 1) emitted t before row
          ∙ sym (λ i. count_of (join_output k (as_of times t (first i)) (as_of times t (second i))) row);
      right = λ k l r received after vs emitted first second t before row.
          side_goes_on times tested Right k vs (received 1) (received 0) emitted t before row
          ∙ sym (λ i. count_of (join_output k (as_of times t (first i)) (as_of times t (second i))) row);
    }
