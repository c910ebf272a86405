use Rattle.histories.specs.Histories.States.{fed_to}
use Rattle.engines.specs.Sessions.{view_frontier, changes_at}
use Rattle.engines.proofs.ChangesLemmas.{changes_are, differences_only}
use Rattle.engines.proofs.laws.the_changes_of_a_view.Goals as goal

pub returns-clause-differences : goal.returns-clause-differences
returns-clause-differences g c p plan s view within =
    changes_are g.met.T.PartialOrder.order g.met.T.Lattice.bounds g.met.T.Lattice.extends g.met.T.Ord.total p s.fed plan view within (view_frontier g.T.PartialOrder.times p s view)

pub returns-clause-only : goal.returns-clause-only
returns-clause-only g c p plan s view within us d =
    let times = g.T.PartialOrder.times in
    differences_only g.met.T.PartialOrder.order g.met.T.Ord.total p (λ input. fed_to input s.fed) (view_frontier times p s view) view us (changes_at times p s g.T.Ord.cmp view) d
    (changes_are g.met.T.PartialOrder.order g.met.T.Lattice.bounds g.met.T.Lattice.extends g.met.T.Ord.total p s.fed plan view within (view_frontier times p s view))
