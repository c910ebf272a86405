use Rattle.operator_laws.proofs.ArrangeLemmas.{all_given, all_held}
use Rattle.operator_laws.proofs.gathered_updates.consolidated_splits.Goals as goal

pub returns : goal.returns
returns g c waiting out sums smaller among = (all_given g.T.PartialOrder.times waiting out sums smaller among, all_held g.T.PartialOrder.times waiting out sums smaller among)
