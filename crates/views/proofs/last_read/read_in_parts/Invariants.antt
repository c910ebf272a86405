use Rattle.std.proofs.Common.{◌≡◌, ◌-◌, length}
use Rattle.update.specs.Bags.{IsBag}
use Rattle.views.specs.Views.{IsReadOf}
use Rattle.views.proofs.last_read.read_in_parts.Given as goal

-- what was read so far is a read of the first updates
abbrev pub invariant-loop-read : goal.invariant-loop-read
invariant-loop-read g l = record {
  read : IsReadOf g.T.PartialOrder.times l.captured l.read.time l.read.bag l.read.known l.read.later.items;
  bag : IsBag l.read.bag;
  time : l.read.time ≡ l.fn.t;
}

-- each part has updates
abbrev pub decreases-loop-read : goal.decreases-loop-read
decreases-loop-read g l = length l.captured - l.read.known
