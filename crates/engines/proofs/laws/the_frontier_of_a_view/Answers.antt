use Rattle.antichain.proofs.Lists.{among_contains, contains_among}
use Rattle.engines.specs.Orders.{in_order}
use Rattle.engines.specs.Sessions.{view_frontier}
use Rattle.engines.proofs.OrderLemmas.{in_order-sorted, in_order-has, in_order-only}
use Rattle.engines.proofs.laws.the_frontier_of_a_view.Goals as goal

pub returns-clause-elements : goal.returns-clause-elements
returns-clause-elements g c p s view =
    let found = view_frontier g.T.PartialOrder.times p s view in
    let cmp = g.T.Ord.cmp in
    record {
      into = λ t h. contains_among t found (in_order-only cmp found t (among_contains t (in_order cmp found) h));
      back = λ t h. contains_among t (in_order cmp found) (in_order-has cmp g.met.T.Lattice.extends.exact found t (among_contains t found h));
    }

pub returns-clause-ascending : goal.returns-clause-ascending
returns-clause-ascending g c p s view = in_order-sorted g.T.Ord.cmp g.met.T.Ord.total (view_frontier g.T.PartialOrder.times p s view)
