use Rattle.progress.proofs.CountLemmas.{cancelled}
use Rattle.progress.proofs.ItemLemmas.{same_items, downgraded_there}
use Rattle.progress.proofs.laws.counts_tell_what_is_there.Goals as goal

pub returns-clause-same : goal.returns-clause-same
returns-clause-same g c xs ys x same there =
    same_items g.T.PartialOrder.times g.met.T.PartialOrder.order xs ys x same there

pub returns-clause-cancelled : goal.returns-clause-cancelled
returns-clause-cancelled g c xs ys x same = cancelled xs ys x same

pub returns-clause-downgraded : goal.returns-clause-downgraded
returns-clause-downgraded g c old new x later d =
    downgraded_there g.T.PartialOrder.times g.met.T.PartialOrder.order old new x later d
