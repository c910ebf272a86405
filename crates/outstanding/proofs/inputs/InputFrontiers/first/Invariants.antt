use Rattle.std.proofs.Common.{◌≡◌, take}
use Rattle.outstanding.specs.Inputs.{first_inputs}
use Rattle.outstanding.proofs.inputs.InputFrontiers.first.Given as goal

abbrev pub invariant-loop-n : goal.invariant-loop-n
invariant-loop-n g l = l.by_node.items ≡ first_inputs g.T.PartialOrder.times.least (take l.n l.plan)
