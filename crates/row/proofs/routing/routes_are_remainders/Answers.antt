use Rattle.std.proofs.Common.{pos}
use Rattle.std.specs.Int.{int_div_euclid}
use Rattle.row.specs.Routing.{column_sum}
use Rattle.row.proofs.RoutingLemmas.{quotient_and_remainder}
use Rattle.row.proofs.routing.routes_are_remainders.Goals as goal

pub returns-clause-quotient : goal.returns-clause-quotient
returns-clause-quotient c key n some =
    (int_div_euclid (column_sum key) (pos n), quotient_and_remainder (column_sum key) n some)
