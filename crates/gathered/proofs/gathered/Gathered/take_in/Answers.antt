-- The times are kept, since the node is no filter.
use Rattle.std.proofs.Common.{IsTrue, sym, subst}
use Rattle.linear.specs.Widths.{takes_rows}
use Rattle.gathered.proofs.GatheredLemmas.{times_kept}
use Rattle.gathered.proofs.gathered.Gathered.take_in.Goals as goal

pub append_applied-moved-requires : goal.append_applied-moved-requires
append_applied-moved-requires g c = record {
  linear = c.requires.linear;
  rows = subst (λ us. IsTrue (takes_rows c.args.operator.now us)) (sym c.in_ok-updates.ensures.updates) c.requires.rows;
  times = times_kept c.args.operator.now c.in_default.not-Filter c.in_ok-updates.updates.items;
}
