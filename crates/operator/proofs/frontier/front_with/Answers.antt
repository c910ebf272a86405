use Rattle.std.proofs.Common.{◌∙◌, sym}
use Rattle.operator.proofs.FrontLemmas.{beyond_covered}
use Rattle.operator.proofs.frontier.front_with.Goals as goal

pub returns-then-covers-clause-none : goal.returns-then-covers-clause-none
returns-then-covers-clause-none g c e t = beyond_covered g.T.PartialOrder.times g.met.T.PartialOrder.order c.args.times.now c.args.updates.now t (sym c.covers.ensures ∙ c.if-covers.true)
