use Rattle.std.proofs.Common.{not, rules}
use Rattle.arrayvec.proofs.ArrayVecLemmas.{filter-from_retain}
use Rattle.antichain.proofs.edits.remove_above.Goals as goal

pub returns-clause-rest : goal.returns-clause-rest
returns-clause-rest g c =
    filter-from_retain _ (λ e. not (g.T.PartialOrder.times.below c.args.t e)) _ (λ x b f y r. search rules) _ _ c.retain.ensures.filtered
