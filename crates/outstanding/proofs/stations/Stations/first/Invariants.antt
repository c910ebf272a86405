use Rattle.std.proofs.Common.{◌≡◌, ◌≤◌, vec_len, vec_capacity}
use Rattle.outstanding.specs.Loads.{first_stations}
use Rattle.outstanding.specs.Stations.{lots}
use Rattle.outstanding.proofs.stations.Stations.first.Given as goal

-- nothing lies at the stations so far, there is room for the other rows, and the tally is as it was
abbrev pub invariant-loop-node : goal.invariant-loop-node
invariant-loop-node g l = record {
  none : lots l.by_node.items ≡ first_stations l._node l.workers;
  made : vec_len l.by_node ≡ l._node;
  room : l.nodes ≤ vec_capacity l.by_node;
  tally : l.tally ≡ l.fn.tally;
}
