use Rattle.std.proofs.Common.{◌≡◌, pos, ◌∙◌, get_or, FitsSigned, w64, arith, rules}
use Rattle.std.proofs.lemmas.Int.{ints, to_z-of_z}
use Rattle.row.proofs.RoutingLemmas.{sum_moves}
use Rattle.row.proofs.routing.sum.Goals as goal

pub loop-column-preserved : goal.loop-column-preserved
loop-column-preserved c =
    let key = c.args.key.now in
    let i = c.loop-column.column-index in
    let fits : FitsSigned w64 (get_or key i (pos 0)) = search rules in
    let column : c.from-sum.result ≡ get_or key i (pos 0) = c.from-sum.ensures ∙ to_z-of_z w64 _ fits in
    record {
      value = sum_moves key i _ c.from-sum.result _ c.loop-column-test.true column (omega (arith, ints)) ∙ c.loop-column.invariant.value;
      low = omega (arith, ints);
      high = omega (arith, ints);
    }
