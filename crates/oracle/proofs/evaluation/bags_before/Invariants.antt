use Rattle.std.proofs.Common.{◌≡◌, map, length}
use Rattle.oracle.specs.Evaluation.{AreBags, sums_at}
use Rattle.oracle.proofs.evaluation.bags_before.Given as goal

-- the bags so far
abbrev pub invariant-loop-node : goal.invariant-loop-node
invariant-loop-node g l = record {
  bags : AreBags l.plan (sums_at g.T.PartialOrder.times l.plan (map (λ v. v.items) l.changes) l.t) l.view l.bags;
  count : length l.bags ≡ l._node;
}
