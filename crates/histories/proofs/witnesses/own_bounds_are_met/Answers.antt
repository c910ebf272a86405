use Rattle.histories.proofs.HistoryLemmas.WitnessLemmas.{distinct_bound, distinct_view_bound}
use Rattle.histories.proofs.witnesses.own_bounds_are_met.Goals as goal

pub returns : goal.returns
returns c = record { distinct = distinct_bound; view = distinct_view_bound }
