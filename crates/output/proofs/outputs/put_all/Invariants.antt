use Rattle.std.proofs.Common.{◌≤◌, ◌-◌, take, length}
use Rattle.output.proofs.outputs.put_all.Given as goal

abbrev pub invariant-loop-at : goal.invariant-loop-at
invariant-loop-at g l = record {
  within : l.at ≤ length l.bytes;
  taken : g.W.Out.took l.fn.out (take l.at l.bytes) 0 l.out;
}

abbrev pub decreases-loop-at : goal.decreases-loop-at
decreases-loop-at g l = length l.bytes - l.at
