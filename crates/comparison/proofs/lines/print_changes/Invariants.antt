use Rattle.std.proofs.Common.{◌≤◌, length}
use Rattle.comparison.specs.Merges.{remaining}
use Rattle.comparison.proofs.LineLemmas.{Printed}
use Rattle.comparison.proofs.lines.print_changes.Given as goal

-- the rows that the cursors have passed are printed and counted
abbrev pub invariant-loop-change : goal.invariant-loop-change
invariant-loop-change g l = record {
  within : (l.at.before ≤ length l.before) × (l.at.after ≤ length l.after);
  printed : Printed g.W.Out.took l.before l.after l.fn.out l.fn.buffer (remaining l.before l.after l.at) l.out l.buffer l.totals.removals l.totals.additions;
}

abbrev pub decreases-loop-change : goal.decreases-loop-change
decreases-loop-change g l = length (remaining l.before l.after l.at)
