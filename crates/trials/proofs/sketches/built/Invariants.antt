use Rattle.std.proofs.Common.{◌≡◌, take}
use Rattle.trials.proofs.sketches.built.Given as goal

abbrev pub invariant-loop-node : goal.invariant-loop-node
invariant-loop-node l = l.builder ≡ take l.node-index l.nodes
