use Rattle.std.proofs.Common.{◌≡◌, ℕ, ◌<◌, [], take, length, get_or}
use Rattle.histories.specs.Histories.Cuts.{part_by_key}
use Rattle.machine.proofs.board.cut.parts_by_key.Given as goal

-- the parts of the updates so far
abbrev pub invariant-loop-update : goal.invariant-loop-update
invariant-loop-update g l = record {
  long : length l.parts.items ≡ l.workers;
  parts : (k : ℕ) → k < l.workers → get_or l.parts.items k [] ≡ part_by_key l.columns l.workers (take l.update-index l.updates) k;
}
