use Rattle.std.proofs.Common.{arith}
use Rattle.progress.proofs.time_counts.position.Goals as goal

pub unreachable-requires : goal.unreachable-requires
unreachable-requires g c =
    let l = c.requires.1 in
    let m = c.loop-number-test.false in
    c.loop-number.invariant c.requires.0 (omega (arith, l, m)) c.requires.2
