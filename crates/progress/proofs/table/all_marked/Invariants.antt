use Rattle.std.proofs.Common.{◌≡◌, ℕ, ◌<◌, true, length}
use Rattle.progress.specs.Kept.{marks_of}
use Rattle.progress.specs.Tallies.{is_marked}
use Rattle.progress.proofs.table.all_marked.Given as goal

-- all nodes so far are marked
abbrev pub invariant-loop-made : goal.invariant-loop-made
invariant-loop-made g l = record {
  len : length l.kept.items ≡ l._made;
  marked : (n : ℕ) → n < length l.kept.items → is_marked (marks_of l.kept.items) n ≡ true;
}
