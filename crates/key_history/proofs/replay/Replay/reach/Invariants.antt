use Rattle.std.proofs.Common.{◌≡◌, ◌-◌, length}
use Rattle.key_history.specs.Replays.{on_the_way}
use Rattle.key_history.proofs.replay.Replay.reach.Given as goal

abbrev pub invariant-loop-time : goal.invariant-loop-time
invariant-loop-time g l =
    (on_the_way l.self.near.items l.self.later.items l.self.entered ≡ on_the_way l.initial.self.near.items l.initial.self.later.items l.initial.self.entered)
    × (l.self.later ≡ l.initial.self.later)

abbrev pub decreases-loop-time : goal.decreases-loop-time
decreases-loop-time g l = length l.self.later.items - l.self.entered
