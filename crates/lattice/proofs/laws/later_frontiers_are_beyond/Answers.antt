use Rattle.lattice.proofs.FrontierLemmas.{beyond_up, beyond_later, all_beyond_from, beyond_itself, all_beyond_later}
use Rattle.lattice.proofs.laws.later_frontiers_are_beyond.Goals as goal

pub returns : goal.returns
returns g c =
    let order = g.met.T.PartialOrder.order in
    record {
      upward = beyond_up order;
      later = beyond_later order;
      covers = all_beyond_from order;
      itself = beyond_itself order;
      transitive = all_beyond_later order;
    }
