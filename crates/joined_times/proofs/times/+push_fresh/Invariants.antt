use Rattle.std.proofs.Common.{length}
use Rattle.joined_times.proofs.times.+push_fresh.Given as goal

-- each half has fewer new times
abbrev pub decreases-push_fresh : goal.decreases-push_fresh
decreases-push_fresh g l = length l.new.now
